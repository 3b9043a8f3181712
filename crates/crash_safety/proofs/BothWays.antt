-- A token both ways. Beside demand 3's invariant, of one token that was handed out: as long as nothing gave it up, its offset's lease has
-- its generation and its worker; from then on no lease of the offset has that generation, which lies below the floor of those to come.
-- Assumes nothing.
use Prim.Native.Nat.{ℕ, suc, ◌≤◌, ◌<◌}
use native.Mathlib.Omega.{arith}
use mathlib.Core.Path.{◌≡◌, refl, sym, ap, ◌∙◌}
use mathlib.Core.Bool.{Bool, true, false, ◌||◌, true≢false}
use mathlib.Core.List.{List, [], ◌∷◌, ◌++◌}
use mathlib.Core.Option.{Option, none, some, none-ne-some}
use lib.Dec.{ltb, eqb}
use lib.ListN.{length}
use borrow.Author.Tests.{eqb-true, eq-eqb, ne_eqb}
use Rattle.types.specs.Limits.{MAX, RANGES}
use Rattle.types.specs.Refusal.{Result, refused, done}
use Rattle.types.specs.Table.{first, Passed, Answer}
use Rattle.types.specs.Keyed.{Entry, lookup, put, update, delete, drop_below}
use Rattle.types.specs.Lists.{times}
use Rattle.types.proofs.Cases.{split}
use Rattle.types.proofs.Table.{passed_none, first_none_before}
use Rattle.types.proofs.Keyed.{lookup-put-same, lookup-put-other, lookup-delete-same, lookup-delete-other, lookup-drop-below, lookup_keep_above}
use Rattle.cursor.specs.Cursor.{ackBounded}
use Rattle.lease.specs.declared.Lease.{Lease}
use Rattle.lease.specs.Operations as lease
use Rattle.lease.specs.Operations.{lease_of, owns, with_deadline, requeued_as}
use Rattle.consumer.specs.State.{Configuration, State}
use Rattle.consumer.specs.Rights.{Operation}
use Rattle.consumer.specs.Calls as consumer
use Rattle.consumer.specs.Calls.{HandOut, token_rows, held_by, hand_out, nack_deadline, at_ceiling, is_shed, at_cap}
use Rattle.consumer.proofs.Open.{claim_cases, ack_cases, nack_cases, progress_cases, commit_cases, call_open, token-passed}
use Rattle.consumer.proofs.Valid.{new_lease}
use Rattle.consumer.proofs.Updates.{lookup-update-same, lookup-update-other}
use Rattle.checkpoint.specs.Checkpoint as checkpoint
use Rattle.checkpoint.specs.Checkpoint.{Writing, is_last}
use Rattle.checkpoint.proofs.Open.{begin-says}
use Rattle.starts.specs.Restart as restarts
use Rattle.starts.specs.Restart.{start_table}
use Rattle.machine.specs.Calls.{Ask, claim, ack, term, nack, progress, commit, look, ask, Event, claimed, acked, termed, nacked, progressed, committed}
use Rattle.machine.specs.Transitions.{Phase, idle, writing, off, After, answered_as, asked, began_as, stepped_as, restarted_as}
use Rattle.power_cut.specs.Cut.{Cut, old, new, torn, is_torn, cut_at, cut_on}
use Rattle.crash_safety.specs.Effects.{effect_of}
use Rattle.crash_safety.specs.Demand3.{handed}
use Rattle.crash_safety.specs.Runs.{Item, call, keeps_journal, World, world, next, after, run, ends, fresh_world}
use Rattle.crash_safety.specs.Workers.{operation_of, refusal_of, token_in}
use Rattle.crash_safety.specs.Tokens.{given_up_by, given_up_in, number_of, beyond_token, AnsweredByToken, TokenBothWays}
use Rattle.crash_safety.proofs.Law.{Ledger, noted, Law, folded}
use Rattle.crash_safety.proofs.Generations.{floor-rises}
use Rattle.crash_safety.proofs.Runs.{Made, Answered, at-end, fold_both, SaysBoth, KeepsBoth}
use Rattle.crash_safety.proofs.Invariant.{Inv}
use Rattle.crash_safety.proofs.Journals.{restart-finds}
use Rattle.crash_safety.proofs.Items.{Shown, next_cases}
use Rattle.crash_safety.proofs.Kept.{item-kept}
use Rattle.crash_safety.proofs.Reached.{reached}
use Rattle.crash_safety.proofs.Workers.{some_inj, Asked, ask-made, own_rows, token-answer, fenced-first, foreign-first}
use Rattle.crash_safety.proofs.Tokens.{none_below}

-- ## whether a token was given up
-- an event that gives a token of offset o up, or an earlier one that did
abbrev up_seen : ℕ → Bool → Event → Bool
up_seen o up e = given_up_by o (effect_of e) || up

or_moved : (p q r : Bool) → (p || (q || r)) ≡ ((q || p) || r)
or_moved true true r = refl
or_moved true false r = refl
or_moved false true r = refl
or_moved false false r = refl

or_false : (p : Bool) → (p || false) ≡ p
or_false true = refl
or_false false = refl

up_folded : (o : ℕ) (es : List Event) (l : Ledger) (up : Bool) → (folded (fold_both noted (up_seen o)) (l, up) es).1 ≡ (given_up_in o es || up)
unfolding folded given_up_in
up_folded o [] l up = refl
up_folded o (e ∷ es) l up = up_folded o es (noted l e) (up_seen o up e) ∙ or_moved (given_up_in o es) (given_up_by o (effect_of e)) up

-- ## one token, of offset o and generation g, that was handed to worker v
module _ (o g v : ℕ) where
  -- the lease that has it
  record Holding (leases : List (Entry Lease)) : Type 0 where
    lease : Lease
    found : lookup o leases ≡ some lease
    generation : (lease).generation.0 ≡ g
    worker : (lease).worker ≡ v

  -- whether it was given up, and what the leases then say
  record Told (up : Bool) (leases : List (Entry Lease)) : Type 0 where
    holds : up ≡ false → Holding leases
    gone : up ≡ true → owns (lookup o leases) g ≡ false

  told-gone : (m : List (Entry Lease)) → owns (lookup o m) g ≡ false → Told true m
  told-gone m h = record { holds = λ e. absurd (true≢false e); gone = λ e. h }

  none_gone : (m : List (Entry Lease)) → lookup o m ≡ none → Told true m
  none_gone m e = told-gone m (rw e)

  -- a lease under another generation
  other-gone : (m : List (Entry Lease)) (l : Lease) → lookup o m ≡ some l → (l.generation.0 ≡ g → ⊥) → Told true m
  other-gone m l e h = told-gone m (rw e (ne_eqb l.generation.0 g h))

  module _ (up : Bool) (leases : List (Entry Lease)) (k : Told up leases) where
    told_same : (m : List (Entry Lease)) → lookup o m ≡ lookup o leases → Told up m
    told_same m e =
        record {
          holds = λ u. let h = k.holds u in
              record { lease = h.lease; found = e ∙ h.found; generation = h.generation; worker = h.worker };
          gone = λ u. rw e (k.gone u);
        }

    -- a lease changed, neither its generation nor its worker
    told-changed : (x : ℕ) (l : Lease) (f : Lease → Lease) → lookup x leases ≡ some l → (f l).generation.0 ≡ l.generation.0 → (f l).worker ≡ l.worker
        → Told up (update x f leases)
    told-changed x l f own same-generation same-worker =
        split (eqb o x)
        (λ t.
        let e : o ≡ x = eqb-true o x t in
        let was : lookup o leases ≡ some l = rw e own in
        let is : lookup o (update x f leases) ≡ some (f l) = rw e (lookup-update-same x f l leases own) in
        record {
          holds = λ u. let h = k.holds u in
              let one : h.lease ≡ l = some_inj (sym h.found ∙ was) in
              record {
                lease = f l;
                found = is;
                generation = same-generation ∙ rw one at h.generation;
                worker = same-worker ∙ rw one at h.worker;
              };
          gone = λ u. rw (is, same-generation) (rw was at (k.gone u));
        })
        (λ t. told_same (update x f leases) (lookup-update-other o x f leases t))

  -- ## along a list
  -- where somebody can be called
  abbrev ToldIn : Bool → Phase → Type 0
  ToldIn up (idle s) = Told up s.table.leases
  ToldIn up (writing w) = Told up w.state.table.leases
  ToldIn up off = Unit {0}

  abbrev Follows : Ledger → Bool → World → Type 0
  Follows l up w = (g < l.floor) × ToldIn up w.phase

  abbrev Quiet : Bool → Event → Type 0
  Quiet up e = Unit {0}

  -- what an item leaves of it; that the floor doesn't fall is the law's
  abbrev Leaves : Bool → Option After → Type 0
  Leaves up none = Unit {0}
  Leaves up (some t) = ToldIn (up_seen o up t.event) t.phase

  module _ (up : Bool) (floor : ℕ) (low : g < floor) where
    module _ (s : State) (a : List ℕ) (k : Told up s.table.leases) (next_one : floor ≤ s.table.next_generation)
        (unleased : (bound x : ℕ) → bound ≤ s.cursor.committed → ltb x bound ≡ true → lookup x s.table.leases ≡ none) where
      abbrev here : List (Entry Lease)
      here = s.table.leases

      abbrev Kept : {A : Type 0} → (Result A → Event) → Answer A State → Type 0
      Kept event r = Told (up_seen o up (event r.outcome)) r.state.table.leases

      claim-told : (w x clock : ℕ) → Kept (claimed x clock) (consumer.claim s w x clock)
      claim-told w x clock =
          claim_cases s w x clock (Kept (claimed x clock)) (λ r. k)
          (λ p.
          let l : Lease = new_lease s.table w x clock in
          split (eqb o x)
          (λ t. rw t (other-gone (put x l here) l (rw (eqb-true o x t) (lookup-put-same x l here)) (λ e. omega arith)))
          (λ t. rw t (told_same up here k (put x l here) (lookup-put-other o x l here t))))

      acked-told : (x : ℕ) → Told (eqb o x || up) (delete x here)
      acked-told x =
          split (eqb o x)
          (λ t. rw t (none_gone (delete x here) (rw (eqb-true o x t) (lookup-delete-same x here))))
          (λ t. rw t (told_same up here k (delete x here) (lookup-delete-other o x here t)))

      nack-told : (w x y clock : ℕ) (d : Option ℕ) → Kept (nacked x y clock d) (consumer.nack s w x y clock d)
      nack-told w x y clock d =
          nack_cases s w x y clock d (Kept (nacked x y clock d)) (λ r. k)
          (λ p.
          let f : Lease → Lease = requeued_as s.table.next_generation (nack_deadline s x clock d) in
          split (eqb o x)
          (λ t. rw t (other-gone (update x f here) (f p.token.lease)
          (rw (eqb-true o x t) (lookup-update-same x f p.token.lease here p.token.held)) (λ e. omega arith)))
          (λ t. rw t (told_same up here k (update x f here) (lookup-update-other o x f here t))))

      progress-told : (w x y clock : ℕ) → Kept (progressed x y clock) (consumer.progress s w x y clock)
      progress-told w x y clock =
          progress_cases s w x y clock (Kept (progressed x y clock)) (λ r. k)
          (λ p. told-changed up here k x p.token.lease (with_deadline (lease.extended s.table x clock)) p.token.held refl refl)

      commit-told : (w bound : ℕ) → Kept (committed bound) (consumer.commit s w bound)
      commit-told w bound =
          commit_cases s w bound (Kept (committed bound)) (λ r. k)
          (λ p h. split (ltb o bound) (λ t. rw t (none_gone here (unleased bound o h t))) (λ t. rw t k))
          (λ p. split (ltb o bound)
          (λ t. rw t (none_gone (drop_below bound here) (lookup-drop-below o bound here t)))
          (λ t. rw t (told_same up here k (drop_below bound here) (lookup_keep_above o bound here t))))

      ask-told : (w : ℕ) (q : Ask) → Leaves up (asked s a w q)
      ask-told w (claim x clock) = claim-told w x clock
      ask-told w (ack x y) = ack_cases s w x y (Kept (acked x y)) (λ r. k) (λ p. acked-told x)
      ask-told w (term x y) = ack_cases s w x y (Kept (termed x y)) (λ r. k) (λ p. acked-told x)
      ask-told w (nack x y clock d) = nack-told w x y clock d
      ask-told w (progress x y clock) = progress-told w x y clock
      ask-told w (commit bound) = commit-told w bound
      ask-told w (look q) = k

      began-told : (w : ℕ) (r : Result Writing) → checkpoint.begin s w ≡ r → Leaves up (began_as s a r)
      began-told w (refused r) e = k
      began-told w (done x) e = rw (← (begin-says s w x e).1) k

    module _ (w : Writing) (a : List ℕ) (k : Told up w.state.table.leases) where
      step-told : Leaves up (stepped_as (checkpoint.step w a))
      unfolding checkpoint.step
      step-told =
          split (eqb (length a) w.state.size)
          (λ e. rw e (split (is_last w) (λ q. rw q k) (λ q. rw q k)))
          (λ e. rw e k)

    cut-at-told : (w : Writing) (a : List ℕ) (x : Cut) → Leaves up (cut_at w a x)
    cut-at-told w a old = tt
    cut-at-told w a new = tt
    cut-at-told w a (torn b) = split (is_torn b) (λ e. rw e tt) (λ e. rw e tt)

    cut-told : (w : Writing) (a : List ℕ) (x : Cut) → Leaves up (cut_on w a x)
    cut-told w a x = split (eqb (length a) w.state.size) (λ e. rw e (cut-at-told w a x)) (λ e. rw e tt)

    elsewhere-told : (a : List ℕ) (x : Option After) → Leaves up x → Leaves up (keeps_journal a x)
    elsewhere-told a none h = tt
    elsewhere-told a (some t) h = h

  module _ (c : Configuration) (n : ℕ) (accepted : Passed (start_table c n)) (l : Ledger) (up : Bool) where
    restart-told : (p : Phase) (a : List ℕ) → Inv c n l (world p a) → Leaves up (restarted_as p a (restarts.restart c a))
    restart-told p a inv = rw (restart-finds c n a inv.saved accepted inv.journal) (none_gone [] refl)

    shown-told : (p : Phase) (a : List ℕ) → g < l.floor → Inv c n l (world p a) → ToldIn up p → Shown (λ i. Leaves up) a p
    shown-told (idle s) a low inv k =
        let unleased = none_below s inv.callable.valid in (
          λ w q e. ask-told up l.floor low s a k inv.callable.floor unleased w q,
          λ w. began-told up l.floor low s a k inv.callable.floor unleased w (checkpoint.begin s w) refl,
        )
    shown-told (writing w) a low inv k = (
      step-told up l.floor low w a k,
      λ b e. elsewhere-told up l.floor low a (stepped_as (checkpoint.step w b)) (step-told up l.floor low w b k),
      cut-told up l.floor low w a,
    )
    shown-told off a low inv k = tt

    item-told : (w : World) (i : Item) → Inv c n l w → Follows l up w → Leaves up (next c w i)
    item-told w i inv k =
        next_cases c (λ j. Leaves up) (λ j e. tt) w.phase w.journal
        (restart-told w.phase w.journal inv) (shown-told w.phase w.journal k.0 inv k.1) i

  module _ (c : Configuration) (n : ℕ) (accepted : Passed (start_table c n)) where
    abbrev fold : Ledger × Bool → Event → Ledger × Bool
    fold = fold_both noted (up_seen o)

    abbrev Says : Ledger × Bool → Event → Type 0
    Says = SaysBoth (Law c.settings.policy) Quiet

    abbrev Keeps : Ledger × Bool → World → Type 0
    Keeps = KeepsBoth (Inv c n) Follows

    each : (b : Ledger × Bool) (w : World) (i : Item) → Keeps b w → Answered fold Says Keeps b (next c w i)
    each b w i h = go (next c w i) (item-kept c n accepted b.0 w i h.0) (item-told c n accepted b.0 b.1 w i h.0 h.1)
      where
        go : (x : Option After) → Answered noted (Law c.settings.policy) (Inv c n) b.0 x → Leaves b.1 x → Answered fold Says Keeps b x
        go none m f = tt
        go (some t) m f =
            record {
              says = (m.says, tt);
              keeps = (m.keeps, (omega (arith, h.1.0, floor-rises b.0.floor (effect_of t.event) m.says.1), f));
            }

    followed : (items : List Item) (b : Ledger × Bool) (w : World) → Keeps b w → Keeps (folded fold b (run c w items)) (ends c w items)
    followed = at-end fold Says Keeps c each

-- ## a call with the token
-- what stands behind the rows of the token
beyond : (s : State) (q : Ask) (o g : ℕ) → token_in q ≡ some (o, g) → 0 < times (number_of (first (own_rows s q))) (beyond_token q)
beyond s (claim x clock) o g e = absurd (none-ne-some (o, g) e)
beyond s (ack x y) o g e =
    split (is_shed (ackBounded s.cursor x RANGES).outcome) (λ t. rw t (omega arith)) (λ t. rw t (omega arith))
beyond s (term x y) o g e =
    split (is_shed (ackBounded s.cursor x RANGES).outcome) (λ t. rw t (omega arith)) (λ t. rw t (omega arith))
beyond s (nack x y clock d) o g e =
    split (eqb s.table.next_generation MAX)
    (λ t. rw t (omega arith))
    (λ t. rw t (split (at_ceiling s) (λ u. rw u (omega arith)) (λ u. rw u (omega arith))))
beyond s (progress x y clock) o g e = split (at_cap s x clock) (λ t. rw t (omega arith)) (λ t. rw t (omega arith))
beyond s (commit bound) o g e = absurd (none-ne-some (o, g) e)
beyond s (look q) o g e = absurd (none-ne-some (o, g) e)

module _ (o g v : ℕ) (up : Bool) (c : Configuration) (s : State) (a : List ℕ) (rights : s.settings ≡ c.settings) (k : Told o g v up s.table.leases)
    (w : ℕ) (q : Ask) (token : token_in q ≡ some (o, g)) (u : After) (says : asked s a w q ≡ some u) where
  abbrev op : Operation
  op = operation_of q

  is-first : refusal_of u.event ≡ first (token_rows s w op o g ++ own_rows s q)
  is-first = token-answer s a w u q o g token says

  owned_so : Holding o g v s.table.leases → owns (lease_of s.table o) g ≡ true
  owned_so h = rw h.found (eq-eqb h.lease.generation.0 g h.generation)

  held_so : Holding o g v s.table.leases → w ≡ v → held_by w (lease_of s.table o) ≡ true
  held_so h e = rw h.found (eq-eqb h.lease.worker w (h.worker ∙ sym e))

  by_token : AnsweredByToken c v w q up (refusal_of u.event)
  by_token =
      record {
        stale = λ t. is-first ∙ fenced-first s w op o g (own_rows s q) (k.gone t) ∙ rw rights;
        others = λ t other. let h = k.holds t in
            is-first
            ∙ foreign-first s w op o g (own_rows s q) (owned_so h) (rw h.found (ne_eqb h.lease.worker w (λ e. other (sym e ∙ h.worker))))
            ∙ rw rights;
        own = λ t same may. let h = k.holds t in
            let passed : Passed (token_rows s w op o g) =
            token-passed s w op o g (call_open s w op (rw rights may)) (rw (owned_so h)) (held_so h same) in
            rw (is-first ∙ first_none_before (token_rows s w op o g) (own_rows s q) (passed_none (token_rows s w op o g) passed)) (beyond s q o g token);
      }

-- a claim that hands out leaves its lease
module _ (s : State) (a : List ℕ) (v o now : ℕ) (t : After) (h : HandOut) where
  abbrev Begun : Type 0
  Begun = ToldIn h.offset h.generation v false t.phase

  begun : asked s a v (claim o now) ≡ some t → t.event ≡ claimed o now (done h) → Begun
  begun =
      claim_cases s v o now (λ x. answered_as a (claimed o now) x ≡ some t → t.event ≡ claimed o now (done h) → Begun)
      (λ r f e. absurd (none-ne-some r (sym (ap refusal_of (ap (λ (x : After). x.event) (some_inj f) ∙ e)))))
      (λ p f e.
      let same : hand_out s o ≡ h = some_inj (ap (λ (y : Event). handed (effect_of y)) (ap (λ (x : After). x.event) (some_inj f) ∙ e)) in
      let l : Lease = new_lease s.table v o now in
      rw (← same, ← some_inj f) (record {
        holds = λ u. record { lease = l; found = lookup-put-same o l s.table.leases; generation = refl; worker = refl };
        gone = λ u. absurd (true≢false (sym u));
      }))

-- whoever can be called then
call-with : (o g v : ℕ) (up : Bool) (c : Configuration) (n : ℕ) (l : Ledger) (p : Phase) (a : List ℕ) → Inv c n l (world p a) → ToldIn o g v up p
    → (w : ℕ) (q : Ask) → token_in q ≡ some (o, g) → (u : After) → Asked p a w q u → AnsweredByToken c v w q up (refusal_of u.event)
call-with o g v up c n l p a inv k w q token u x =
    let s : State = x.state in
    let here : Inv c n l (world (idle s) a) = rw x.there at inv in
    by_token o g v up c s a here.callable.settings (rw x.there at k) w q token u x.says

pub token-both_ways : TokenBothWays
unfolding TokenBothWays
token-both_ways c n s before between f e v o now h t made is w q token u asks =
    let r = reached c n s before f e in
    let first : World = ends c (fresh_world s n) before in
    let x = ask-made c first.phase first.journal v t (claim o now) made in
    let kept : Made noted (Law c.settings.policy) (Inv c n) r.ledger t =
    rw made at (item-kept c n r.accepted r.ledger first (call (ask v (claim o now))) r.inv) in
    let l : Ledger = noted r.ledger t.event in
    let floor : l.floor ≡ suc h.generation = ap (λ (y : Event). (noted r.ledger y).floor) is in
    let k = followed h.offset h.generation v c n r.accepted between (l, false) (after t)
    (kept.keeps, (omega (arith, floor), begun x.state first.journal v o now t h x.says is)) in
    let es : List Event = run c (after t) between in
    let left : World = ends c (after t) between in
    let up = folded (fold_both noted (up_seen h.offset)) (l, false) es in
    let so : up.1 ≡ given_up_in h.offset es = up_folded h.offset es l false ∙ or_false (given_up_in h.offset es) in
    rw (← so)
    (call-with h.offset h.generation v up.1 c n up.0 left.phase left.journal k.0 k.1.1 w q token u
    (ask-made c left.phase left.journal w u q asks))
