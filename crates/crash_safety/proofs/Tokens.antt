-- No stale token. Beside demand 3's invariant: every token that was given lies below the floor of the generations to come, and a
-- lease under a generation that was given is the one that its offset is held under. A claim's generation is the floor at least; a
-- nack's is so too and was given to nobody. Assumes nothing.
use Prim.Native.Nat.{ℕ, suc, ◌≤◌, ◌<◌}
use native.Mathlib.Omega.{arith}
use mathlib.Core.Path.{◌≡◌, refl, sym, ◌∙◌}
use mathlib.Core.Bool.{Bool, true, false, ◌&&◌, true≢false, or-true}
use mathlib.Core.List.{List, [], ◌∷◌}
use mathlib.Core.Option.{Option, none, some, none-ne-some}
use lib.Dec.{ltb, eqb}
use lib.ListN.{length}
use borrow.Author.Tests.{ltb-true, eqb-true, ne_eqb, lt-ltb}
use Rattle.types.specs.Refusal.{Refusal, Result, refused, done, Fenced}
use Rattle.types.specs.Table.{Row, Answer, Passed}
use Rattle.types.specs.Keyed.{Entry, lookup, put, update, delete, drop_below}
use Rattle.types.proofs.Cases.{split, both, either}
use Rattle.types.proofs.Keyed.{lookup-put-same, lookup-put-other, lookup-delete-same, lookup-delete-other, lookup-drop-below, lookup_keep_above}
use Rattle.consumer.proofs.Updates.{lookup-update-same, lookup-update-other}
use Rattle.cursor.specs.Cursor.{settled}
use Rattle.lease.specs.declared.Lease.{Lease}
use Rattle.lease.specs.Operations as lease
use Rattle.lease.specs.Operations.{owns, with_deadline, requeued_as}
use Rattle.consumer.specs.State.{Configuration, State}
use Rattle.consumer.specs.Calls as consumer
use Rattle.consumer.specs.Calls.{HandOut, hand_out, nack_deadline}
use Rattle.consumer.specs.Valid.{Valid}
use Rattle.consumer.proofs.Open.{claim_cases, ack_cases, Owned, nack_cases, progress_cases, commit_cases}
use Rattle.checkpoint.specs.Checkpoint as checkpoint
use Rattle.checkpoint.specs.Checkpoint.{Writing, is_last}
use Rattle.checkpoint.proofs.Open.{begin-says}
use Rattle.starts.specs.Restart as restarts
use Rattle.starts.specs.Restart.{start_table}
use Rattle.machine.specs.Calls.{Ask, claim, ack, term, nack, progress, commit, look, Event, claimed, acked, termed, nacked, progressed, committed}
use Rattle.machine.specs.Transitions.{Phase, idle, writing, off, After, asked, began_as, stepped_as, restarted_as}
use Rattle.power_cut.specs.Cut.{Cut, old, new, torn, is_torn, cut_at, cut_on}
use Rattle.crash_safety.specs.Runs.{Item, keeps_journal, World, world, next, run, ends, fresh_world}
use Rattle.crash_safety.specs.Effects.{only, below, effect_of}
use Rattle.crash_safety.specs.Workers.{operation_of, rows_for, refusal_of, token_in, or_else}
use Rattle.crash_safety.specs.Tokens.{Tokens, no_tokens, gives_out, givesUp, loses_all, tokens_after, tokens_in, StaleRefused, NoStaleToken}
use Rattle.crash_safety.proofs.Law.{Ledger, empty_ledger, noted, Law, folded}
use Rattle.crash_safety.proofs.Runs.{Answered, at-end, fold_both, SaysBoth, KeepsBoth, Second, beside}
use Rattle.crash_safety.proofs.Invariant.{Inv}
use Rattle.crash_safety.proofs.Journals.{restart-finds}
use Rattle.crash_safety.proofs.Items.{Shown, next_cases}
use Rattle.crash_safety.proofs.Kept.{item-kept}
use Rattle.crash_safety.proofs.Start.{begins_well}
use Rattle.crash_safety.proofs.Workers.{some_inj, Asked, ask-made, fenced-answer}

-- ## what is known of tokens
pub record Known (t : Tokens) (floor : ℕ) (leases : List (Entry Lease)) : Type 0 where
  pub given_below : (o g : ℕ) → t.given o g ≡ true → g < floor
  pub lost-given : (o g : ℕ) → t.lost o g ≡ true → t.given o g ≡ true
  pub held_new : (o g : ℕ) → t.held o ≡ some g → t.lost o g ≡ true → ⊥
  pub held-lease : (o : ℕ) (l : Lease) → lookup o leases ≡ some l → t.given o l.generation.0 ≡ true
      → t.held o ≡ some l.generation.0

abbrev pub leases_of : Phase → List (Entry Lease)
leases_of (idle s) = s.table.leases
leases_of (writing w) = w.state.table.leases
leases_of off = []

module _ (t : Tokens) (floor : ℕ) (leases : List (Entry Lease)) (k : Known t floor leases) where
  -- a token that is stale or lost is not the lease's
  module _ (o g : ℕ) where
    stale-unowned : t.given o g ≡ true → (t.held o ≡ some g → ⊥) → owns (lookup o leases) g ≡ false
    stale-unowned d h = go (lookup o leases) refl
      where
        go : (x : Option Lease) → lookup o leases ≡ x → owns x g ≡ false
        go none e = refl
        go (some l) e = ne_eqb l.generation.0 g (λ q. h (rw (← q) (k.held-lease o l e (rw q d))))

    stale-refused : (rows : List Row) (r : Option Refusal) → (owns (lookup o leases) g ≡ false → r ≡ or_else rows Fenced)
        → StaleRefused t o g rows r
    stale-refused rows r fenced =
        record {
          stale = λ d h. fenced (stale-unowned d h);
          lost = λ l. fenced (stale-unowned (k.lost-given o g l) (λ q. k.held_new o g q l));
        }

  -- ## what becomes of it
  -- a hand-out, under a generation of at least the floor
  gives-out : (h : HandOut) (l : Lease) → floor ≤ h.generation → l.generation.0 ≡ h.generation
      → Known (gives_out t h) (suc h.generation) (put h.offset l leases)
  gives-out h l f e =
      record {
        given_below = λ o g d. split (eqb o h.offset && eqb g h.generation)
            (λ q. omega (arith, eqb-true g h.generation (both (eqb o h.offset) (eqb g h.generation) q).1))
            (λ q. omega (arith, k.given_below o g (either (eqb o h.offset && eqb g h.generation) (t.given o g) d q)));
        lost-given = λ o g d. rw (k.lost-given o g d) (or-true (eqb o h.offset && eqb g h.generation));
        held_new = λ o g q d. split (eqb o h.offset)
            (λ s. let same : h.generation ≡ g = some_inj (rw s at q) in omega (arith, k.given_below o g (k.lost-given o g d)))
            (λ s. k.held_new o g (rw s at q) d);
        held-lease = λ o x q d. split (eqb o h.offset)
            (λ s.
            let same : l ≡ x = some_inj (sym (lookup-put-same h.offset l leases) ∙ (rw (eqb-true o h.offset s) at q)) in
            rw (s, ← same, e))
            (λ s. rw s (k.held-lease o x (sym (lookup-put-other o h.offset l leases s) ∙ q) (rw s at d)));
      }

  -- offsets are given up: they have no lease any more, or one under a generation that was not given
  gives_up : (named : ℕ → Bool) (m : List (Entry Lease))
      → ((x : ℕ) (l : Lease) → named x ≡ true → lookup x m ≡ some l → t.given x l.generation.0 ≡ true → ⊥)
      → ((x : ℕ) → named x ≡ false → lookup x m ≡ lookup x leases)
      → Known (givesUp t named) floor m
  gives_up named m own other =
      record {
        given_below = k.given_below;
        lost-given = k.lost-given;
        held_new = λ x g q d. split (named x)
            (λ s. absurd (none-ne-some g (rw s at q)))
            (λ s. k.held_new x g (rw s at q) d);
        held-lease = λ x l q d. split (named x)
            (λ s. absurd (own x l s q d))
            (λ s. rw s (k.held-lease x l (sym (other x s) ∙ q) d));
      }

  -- a lease changed, and not its generation
  keeps-generation : (o : ℕ) (v : Lease) (f : Lease → Lease) → lookup o leases ≡ some v → (f v).generation.0 ≡ v.generation.0
      → Known t floor (update o f leases)
  keeps-generation o v f own same =
      record {
        given_below = k.given_below;
        lost-given = k.lost-given;
        held_new = k.held_new;
        held-lease = λ x l q d. split (eqb x o)
            (λ s.
            let e : x ≡ o = eqb-true x o s in
            let is : f v ≡ l = some_inj (sym (lookup-update-same o f v leases own) ∙ (rw e at q)) in
            let g : l.generation.0 ≡ v.generation.0 = rw (← is) same in
            rw (g, e) (k.held-lease o v own (rw (g, e) at d)))
            (λ s. k.held-lease x l (sym (lookup-update-other x o f leases s) ∙ q) d);
      }

  -- nothing is leased any more
  none_leased : Known t floor []
  none_leased =
      record {
        given_below = k.given_below;
        lost-given = k.lost-given;
        held_new = k.held_new;
        held-lease = λ o l q d. absurd (none-ne-some l q);
      }

  loses_all_lem : Known (loses_all t) floor []
  loses_all_lem =
      record {
        given_below = k.given_below;
        lost-given = λ o g d. d;
        held_new = λ o g q d. none-ne-some g q;
        held-lease = λ o l q d. absurd (none-ne-some l q);
      }

-- no lease lies below committed
pub none_below : (s : State) → Valid s → (bound x : ℕ) → bound ≤ s.cursor.committed → ltb x bound ≡ true → lookup x s.table.leases ≡ none
none_below s valid bound x h e = go (lookup x s.table.leases) refl
  where
    go : (y : Option Lease) → lookup x s.table.leases ≡ y → y ≡ none
    go none q = refl
    go (some v) q =
        let u : settled s.cursor x ≡ false = (valid.leased x v q).unsettled in
        absurd (true≢false (sym (rw (lt-ltb x s.cursor.committed (omega (arith, ltb-true x bound e)))) ∙ u))

pub nothing-given : (floor : ℕ) (leases : List (Entry Lease)) → Known no_tokens floor leases
nothing-given floor leases =
    record {
      given_below = λ o g d. absurd (true≢false (sym d));
      lost-given = λ o g d. d;
      held_new = λ o g q d. none-ne-some g q;
      held-lease = λ o l q d. absurd (true≢false (sym d));
    }

-- what an event tells of tokens
abbrev pub tokens_seen : Tokens → Event → Tokens
tokens_seen t e = tokens_after t (effect_of e)

-- nothing is said of the events themselves
abbrev Quiet : Tokens → Event → Type 0
Quiet t e = Unit {0}

-- ## each call
abbrev pub Knows : Ledger → Tokens → World → Type 0
Knows l t w = Known t l.floor (leases_of w.phase)

module _ (c : Configuration) (n : ℕ) (l : Ledger) (t : Tokens) where
  abbrev Next : Option After → Type 0
  Next = Second noted tokens_seen Quiet Knows (l, t)

  module _ (s : State) (a : List ℕ) (inv : Inv c n l (world (idle s) a)) (k : Known t l.floor s.table.leases) where
    abbrev Kept : {A : Type 0} → (Result A → Event) → Answer A State → Type 0
    Kept event r = Next (some (record { event = event r.outcome; phase = idle r.state; area = a }))

    abbrev here : List (Entry Lease)
    here = s.table.leases

    -- what is known after an answer
    abbrev Afterwards : {A : Type 0} → (Result A → Event) → Answer A State → Type 0
    Afterwards event r = Knows (noted l (event r.outcome)) (tokens_seen t (event r.outcome)) (world (idle r.state) a)

    claim-knows : (w o clock : ℕ) → Kept (claimed o clock) (consumer.claim s w o clock)
    claim-knows w o clock =
        claim_cases s w o clock (Kept (claimed o clock)) (λ r. record { says = tt; keeps = k })
        (λ p. record { says = tt; keeps = gives-out t l.floor here k (hand_out s o) _ inv.callable.floor refl })

    acked_up : (o : ℕ) → Known (givesUp t (only o)) l.floor (delete o here)
    acked_up o =
        gives_up t l.floor here k (only o) (delete o here)
        (λ x v e q d. none-ne-some v (sym (lookup-delete-same o here) ∙ (rw (eqb-true x o e) at q)))
        (λ x e. lookup-delete-other x o here e)

    ack-knows : (w o g : ℕ) → Kept (acked o g) (consumer.ack s w o g)
    ack-knows w o g = record { says = tt; keeps = ack_cases s w o g (Afterwards (acked o g)) (λ r. k) (λ p. acked_up o) }

    term-knows : (w o g : ℕ) → Kept (termed o g) (consumer.ack s w o g)
    term-knows w o g = record { says = tt; keeps = ack_cases s w o g (Afterwards (termed o g)) (λ r. k) (λ p. acked_up o) }

    -- the generation that a nack takes is at least the floor, so that nobody was given it
    nacked_up : (w o g deadline : ℕ) → Owned s.table w o g → Known (givesUp t (only o)) l.floor (consumer.nacked s o deadline).table.leases
    nacked_up w o g deadline p =
        let f : Lease → Lease = requeued_as s.table.next_generation deadline in
        gives_up t l.floor here k (only o) (update o f here)
        (λ x v e q d.
        let is : f p.lease ≡ v = some_inj (sym (lookup-update-same o f p.lease here p.held) ∙ (rw (eqb-true x o e) at q)) in
        omega (arith, k.given_below x s.table.next_generation (rw (← is) at d), inv.callable.floor))
        (λ x e. lookup-update-other x o f here e)

    nack-knows : (w o g clock : ℕ) (d : Option ℕ) → Kept (nacked o g clock d) (consumer.nack s w o g clock d)
    nack-knows w o g clock d =
        record {
          says = tt;
          keeps = nack_cases s w o g clock d (Afterwards (nacked o g clock d)) (λ r. k)
              (λ p. nacked_up w o g (nack_deadline s o clock d) p.token);
        }

    progress-knows : (w o g clock : ℕ) → Kept (progressed o g clock) (consumer.progress s w o g clock)
    progress-knows w o g clock =
        record {
          says = tt;
          keeps = progress_cases s w o g clock (Afterwards (progressed o g clock)) (λ r. k)
              (λ p. keeps-generation t l.floor here k o p.token.lease (with_deadline (lease.extended s.table o clock)) p.token.held refl);
        }

    commit-knows : (w bound : ℕ) → Kept (committed bound) (consumer.commit s w bound)
    commit-knows w bound =
        record {
          says = tt;
          keeps = commit_cases s w bound (Afterwards (committed bound)) (λ r. k)
              (λ f h. gives_up t l.floor here k (below bound) here
              (λ x v e q d. none-ne-some v (sym (none_below s inv.callable.valid bound x h e) ∙ q))
              (λ x e. refl))
              (λ p. gives_up t l.floor here k (below bound) (drop_below bound here)
              (λ x v e q d. none-ne-some v (sym (lookup-drop-below x bound here e) ∙ q))
              (λ x e. lookup_keep_above x bound here e));
        }

    ask-knows : (w : ℕ) (q : Ask) → Next (asked s a w q)
    ask-knows w (claim o clock) = claim-knows w o clock
    ask-knows w (ack o g) = ack-knows w o g
    ask-knows w (term o g) = term-knows w o g
    ask-knows w (nack o g clock d) = nack-knows w o g clock d
    ask-knows w (progress o g clock) = progress-knows w o g clock
    ask-knows w (commit bound) = commit-knows w bound
    ask-knows w (look q) = record { says = tt; keeps = k }

    began-knows : (w : ℕ) (r : Result Writing) → checkpoint.begin s w ≡ r → Next (began_as s a r)
    began-knows w (refused r) e = record { says = tt; keeps = k }
    began-knows w (done x) e = record { says = tt; keeps = rw (← (begin-says s w x e).1) k }

  -- ## steps, cuts and restarts
  module _ (w : Writing) (a : List ℕ) (k : Known t l.floor w.state.table.leases) where
    step-knows : Next (stepped_as (checkpoint.step w a))
    unfolding checkpoint.step
    step-knows =
        split (eqb (length a) w.state.size)
        (λ e. rw e (split (is_last w) (λ q. rw q (record { says = tt; keeps = k })) (λ q. rw q (record { says = tt; keeps = k }))))
        (λ e. rw e (record { says = tt; keeps = k }))

    cut-at-knows : (x : Cut) → Next (cut_at w a x)
    cut-at-knows old = record { says = tt; keeps = none_leased t l.floor w.state.table.leases k }
    cut-at-knows new =
        split (is_last w)
        (λ e. rw e (record { says = tt; keeps = none_leased t l.floor w.state.table.leases k }))
        (λ e. rw e (record { says = tt; keeps = none_leased t l.floor w.state.table.leases k }))
    cut-at-knows (torn b) =
        split (is_torn b)
        (λ e. rw e (record { says = tt; keeps = none_leased t l.floor w.state.table.leases k }))
        (λ e. rw e tt)

    cut-knows : (x : Cut) → Next (cut_on w a x)
    cut-knows x = split (eqb (length a) w.state.size) (λ e. rw e (cut-at-knows x)) (λ e. rw e tt)

  elsewhere-knows : (a : List ℕ) (x : Option After) → Next x → Next (keeps_journal a x)
  elsewhere-knows a none h = tt
  elsewhere-knows a (some u) h = record { says = h.says; keeps = h.keeps }

  restart-knows : (accepted : Passed (start_table c n)) (p : Phase) (a : List ℕ) → Inv c n l (world p a) → Known t l.floor (leases_of p)
      → Next (restarted_as p a (restarts.restart c a))
  restart-knows accepted p a inv k =
      rw (restart-finds c n a inv.saved accepted inv.journal)
      (record { says = tt; keeps = loses_all_lem t l.floor (leases_of p) k })

  -- ## each item
  knows : (p : Phase) (a : List ℕ) → Inv c n l (world p a) → Known t l.floor (leases_of p) → Shown (λ i. Next) a p
  knows (idle s) a inv k = (λ w q e. ask-knows s a inv k w q, λ w. began-knows s a inv k w (checkpoint.begin s w) refl)
  knows (writing w) a inv k =
      (step-knows w a k, λ b e. elsewhere-knows a (stepped_as (checkpoint.step w b)) (step-knows w b k), cut-knows w a k)
  knows off a inv k = tt

  item-knows : Passed (start_table c n) → (w : World) (i : Item) → Inv c n l w → Knows l t w → Next (next c w i)
  item-knows accepted w i inv k =
      next_cases c (λ j. Next) (λ j e. tt) w.phase w.journal
      (restart-knows accepted w.phase w.journal inv k)
      (knows w.phase w.journal inv k) i

-- ## every list
pub tokens-folded : (es : List Event) (l : Ledger) (t : Tokens) → (folded (fold_both noted tokens_seen) (l, t) es).1 ≡ tokens_in t es
unfolding folded tokens_in
tokens-folded [] l t = refl
tokens-folded (e ∷ es) l t = tokens-folded es (noted l e) (tokens_seen t e)

module _ (c : Configuration) (n : ℕ) (accepted : Passed (start_table c n)) where
  abbrev pub fold : Ledger × Tokens → Event → Ledger × Tokens
  fold = fold_both noted tokens_seen

  abbrev Says : Ledger × Tokens → Event → Type 0
  Says = SaysBoth (Law c.settings.policy) Quiet

  abbrev pub Keeps : Ledger × Tokens → World → Type 0
  Keeps = KeepsBoth (Inv c n) Knows

  each : (b : Ledger × Tokens) (w : World) (i : Item) → Keeps b w → Answered fold Says Keeps b (next c w i)
  each b w i h =
      beside noted tokens_seen (Law c.settings.policy) Quiet (Inv c n) Knows b (next c w i)
      (item-kept c n accepted b.0 w i h.0)
      (item-knows c n b.0 b.1 accepted w i h.0 h.1)

  pub known-after : (items : List Item) (w : World) → Keeps (empty_ledger, no_tokens) w
      → Keeps (folded fold (empty_ledger, no_tokens) (run c w items)) (ends c w items)
  known-after items w h = at-end fold Says Keeps c each items (empty_ledger, no_tokens) w h

-- the next call, with the state that it finds and the rights of the configuration
next-right : (c : Configuration) (n : ℕ) (b : Ledger × Tokens) (p : Phase) (a : List ℕ) (w : ℕ) (q : Ask) (o g : ℕ) → token_in q ≡ some (o, g)
    → (t : After) → Asked p a w q t → Inv c n b.0 (world p a) → Known b.1 b.0.floor (leases_of p)
    → StaleRefused b.1 o g (rows_for c w (operation_of q)) (refusal_of t.event)
next-right c n b p a w q o g e t x inv k =
    let s : State = x.state in
    let known : Known b.1 b.0.floor s.table.leases = rw x.there at k in
    stale-refused b.1 b.0.floor s.table.leases known o g _ _ (fenced-answer c n b.0 p a inv w q o g e t x)

pub no-stale-token : NoStaleToken
unfolding NoStaleToken
no-stale-token c n s items f e w q o g d t m =
    let start = begins_well c n s f e in
    let es : List Event = run c (fresh_world s n) items in
    let left : World = ends c (fresh_world s n) items in
    let k = known-after c n start.accepted items (fresh_world s n) (start.inv, nothing-given 0 s.table.leases) in
    rw (← tokens-folded es empty_ledger no_tokens)
    (next-right c n (folded (fold_both noted tokens_seen) (empty_ledger, no_tokens) es) left.phase left.journal w q o g d t
    (ask-made c left.phase left.journal w t q m) k.0 k.1)
