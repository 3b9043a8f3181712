-- A token is one worker's. Beside demand 3's invariant: the token's generation lies below the floor of the generations to come, and a
-- lease of its offset under that generation is the worker's who was handed it. Only a claim writes a lease's worker, with a generation
-- of at least the floor. Assumes nothing.
use Prim.Native.Nat.{ℕ, suc, ◌≤◌, ◌<◌}
use native.Mathlib.Omega.{arith}
use mathlib.Core.Path.{◌≡◌, refl, sym, ap, subst, ◌∙◌}
use mathlib.Core.List.{List, []}
use mathlib.Core.Option.{Option, none, some, none-ne-some}
use lib.Dec.{ltb, eqb}
use lib.ListN.{length}
use borrow.Author.Tests.{eqb-true}
use Rattle.types.specs.Refusal.{Result, refused, done}
use Rattle.types.specs.Table.{Answer, Passed}
use Rattle.types.specs.Keyed.{Entry, lookup}
use Rattle.types.proofs.Cases.{split}
use Rattle.types.proofs.Keyed.{lookup-put-same, lookup-put-other, lookup-delete-same, lookup-delete-other, lookup-drop-below, lookup_keep_above}
use Rattle.lease.specs.declared.Lease.{Lease}
use Rattle.lease.specs.Operations as lease
use Rattle.lease.specs.Operations.{with_deadline, requeued_as}
use Rattle.consumer.specs.State.{Configuration, State}
use Rattle.consumer.specs.Calls as consumer
use Rattle.consumer.specs.Calls.{HandOut, call_rows, hand_out, nack_deadline}
use Rattle.consumer.proofs.Open.{claim_cases, ack_cases, nack_cases, progress_cases, commit_cases}
use Rattle.consumer.proofs.Valid.{new_lease}
use Rattle.consumer.proofs.Updates.{lookup-update-same, lookup-update-other}
use Rattle.checkpoint.specs.Checkpoint as checkpoint
use Rattle.checkpoint.specs.Checkpoint.{Writing, is_last}
use Rattle.checkpoint.proofs.Open.{begin-says}
use Rattle.starts.specs.Restart as restarts
use Rattle.starts.specs.Restart.{start_table}
use Rattle.machine.specs.Calls.{Ask, claim, ack, term, nack, progress, commit, look, ask, step, restart, Event, claimed}
use Rattle.machine.specs.Transitions.{Phase, idle, writing, off, After, answered_as, asked, began_as, stepped_as, restarted_as}
use Rattle.power_cut.specs.Cut.{Cut, old, new, torn, is_torn, cut_at, cut_on}
use Rattle.crash_safety.specs.Effects.{effect_of}
use Rattle.crash_safety.specs.Demand3.{handed}
use Rattle.crash_safety.specs.Runs.{Item, call, keeps_journal, World, world, next, after, run, ends, fresh_world}
use Rattle.crash_safety.specs.Workers.{operation_of, rows_for, refusal_of, token_in, NotOwn, TokenOfOne}
use Rattle.crash_safety.proofs.Law.{Ledger, noted, Law, folded}
use Rattle.crash_safety.proofs.Generations.{floor-rises}
use Rattle.crash_safety.proofs.Runs.{Made, Answered, at-end}
use Rattle.crash_safety.proofs.Invariant.{Inv}
use Rattle.crash_safety.proofs.Journals.{restart-finds}
use Rattle.crash_safety.proofs.Items.{Shown, next_cases}
use Rattle.crash_safety.proofs.Kept.{item-kept}
use Rattle.crash_safety.proofs.Reached.{reached}
use Rattle.crash_safety.proofs.Workers.{some_inj, Asked, ask-made, own_rows, token-answer, not_own}
use Rattle.crash_safety.proofs.Tokens.{leases_of}

-- ## where the leases of a state come from
-- under a generation that is at least the floor, or the lease that was there before
data Origin (floor : ℕ) (before : Option Lease) (l : Lease) : Type 0 where
  fresh : floor ≤ l.generation.0 → Origin floor before l
  kept : (k : Lease) → before ≡ some k → k.generation.0 ≡ l.generation.0 → k.worker ≡ l.worker → Origin floor before l

abbrev Origins : ℕ → List (Entry Lease) → List (Entry Lease) → Type 0
Origins floor before now = (o : ℕ) (l : Lease) → lookup o now ≡ some l → Origin floor (lookup o before) l

all-kept : (floor : ℕ) (leases : List (Entry Lease)) → Origins floor leases leases
all-kept floor leases o l e = kept l e refl refl

none_left : (floor : ℕ) (leases : List (Entry Lease)) → Origins floor leases []
none_left floor leases o l e = absurd (none-ne-some l e)

-- what an item leaves
abbrev From : ℕ → List (Entry Lease) → Option After → Type 0
From floor before none = Unit {0}
From floor before (some t) = Origins floor before (leases_of t.phase)

module _ (floor : ℕ) (s : State) (a : List ℕ) (low : floor ≤ s.table.next_generation) where
  abbrev here : List (Entry Lease)
  here = s.table.leases

  abbrev Left : {A : Type 0} → Answer A State → Type 0
  Left r = Origins floor here r.state.table.leases

  claim-from : (w o now : ℕ) → Left (consumer.claim s w o now)
  claim-from w o now =
      claim_cases s w o now Left (λ r. all-kept floor here)
      (λ p x l e. split (eqb x o)
      (λ t.
      let new : Lease = new_lease s.table w o now in
      let same : new ≡ l = some_inj (sym (lookup-put-same o new here) ∙ (rw (eqb-true x o t) at e)) in
      fresh (rw (← same) low))
      (λ t. kept l (sym (lookup-put-other x o (new_lease s.table w o now) here t) ∙ e) refl refl))

  ack-from : (w o g : ℕ) → Left (consumer.ack s w o g)
  ack-from w o g =
      ack_cases s w o g Left (λ r. all-kept floor here)
      (λ p x l e. split (eqb x o)
      (λ t. absurd (none-ne-some l (sym (lookup-delete-same o here) ∙ (rw (eqb-true x o t) at e))))
      (λ t. kept l (sym (lookup-delete-other x o here t) ∙ e) refl refl))

  nack-from : (w o g now : ℕ) (d : Option ℕ) → Left (consumer.nack s w o g now d)
  nack-from w o g now d =
      nack_cases s w o g now d Left (λ r. all-kept floor here)
      (λ p x l e.
      let f : Lease → Lease = requeued_as s.table.next_generation (nack_deadline s o now d) in
      split (eqb x o)
      (λ t.
      let same : f p.token.lease ≡ l = some_inj (sym (lookup-update-same o f p.token.lease here p.token.held) ∙ (rw (eqb-true x o t) at e)) in
      fresh (rw (← same) low))
      (λ t. kept l (sym (lookup-update-other x o f here t) ∙ e) refl refl))

  progress-from : (w o g now : ℕ) → Left (consumer.progress s w o g now)
  progress-from w o g now =
      progress_cases s w o g now Left (λ r. all-kept floor here)
      (λ p x l e.
      let f : Lease → Lease = with_deadline (lease.extended s.table o now) in
      split (eqb x o)
      (λ t.
      let same : f p.token.lease ≡ l = some_inj (sym (lookup-update-same o f p.token.lease here p.token.held) ∙ (rw (eqb-true x o t) at e)) in
      kept p.token.lease (rw (eqb-true x o t) p.token.held) (rw (← same)) (rw (← same)))
      (λ t. kept l (sym (lookup-update-other x o f here t) ∙ e) refl refl))

  commit-from : (w bound : ℕ) → Left (consumer.commit s w bound)
  commit-from w bound =
      commit_cases s w bound Left (λ r. all-kept floor here) (λ p h. all-kept floor here)
      (λ p x l e. split (ltb x bound)
      (λ t. absurd (none-ne-some l (sym (lookup-drop-below x bound here t) ∙ e)))
      (λ t. kept l (sym (lookup_keep_above x bound here t) ∙ e) refl refl))

  ask-from : (w : ℕ) (q : Ask) → From floor here (asked s a w q)
  ask-from w (claim o now) = claim-from w o now
  ask-from w (ack o g) = ack-from w o g
  ask-from w (term o g) = ack-from w o g
  ask-from w (nack o g now d) = nack-from w o g now d
  ask-from w (progress o g now) = progress-from w o g now
  ask-from w (commit bound) = commit-from w bound
  ask-from w (look q) = all-kept floor here

  began-from : (w : ℕ) (r : Result Writing) → checkpoint.begin s w ≡ r → From floor here (began_as s a r)
  began-from w (refused r) e = all-kept floor here
  began-from w (done x) e = rw (← (begin-says s w x e).1) (all-kept floor here)

module _ (floor : ℕ) (w : Writing) (a : List ℕ) where
  abbrev out : List (Entry Lease)
  out = w.state.table.leases

  step_from : From floor out (stepped_as (checkpoint.step w a))
  unfolding checkpoint.step
  step_from =
      split (eqb (length a) w.state.size)
      (λ e. rw e (split (is_last w) (λ q. rw q (all-kept floor out)) (λ q. rw q (all-kept floor out))))
      (λ e. rw e (all-kept floor out))

  cut-at-from : (x : Cut) → From floor out (cut_at w a x)
  cut-at-from old = none_left floor out
  cut-at-from new = none_left floor out
  cut-at-from (torn b) = split (is_torn b) (λ e. rw e (none_left floor out)) (λ e. rw e tt)

  cut-from : (x : Cut) → From floor out (cut_on w a x)
  cut-from x = split (eqb (length a) w.state.size) (λ e. rw e (cut-at-from x)) (λ e. rw e tt)

elsewhere-from : (floor : ℕ) (leases : List (Entry Lease)) (a : List ℕ) (x : Option After) → From floor leases x → From floor leases (keeps_journal a x)
elsewhere-from floor leases a none h = tt
elsewhere-from floor leases a (some t) h = h

module _ (c : Configuration) (n : ℕ) (accepted : Passed (start_table c n)) (l : Ledger) where
  restart-from : (p : Phase) (a : List ℕ) → Inv c n l (world p a) → From l.floor (leases_of p) (restarted_as p a (restarts.restart c a))
  restart-from p a inv = rw (restart-finds c n a inv.saved accepted inv.journal) (none_left l.floor (leases_of p))

  shown-from : (p : Phase) (a : List ℕ) → Inv c n l (world p a) → Shown (λ i. From l.floor (leases_of p)) a p
  shown-from (idle s) a inv =
      let low : l.floor ≤ s.table.next_generation = inv.callable.floor in
      (λ w q e. ask-from l.floor s a low w q, λ w. began-from l.floor s a low w (checkpoint.begin s w) refl)
  shown-from (writing w) a inv = (
    step_from l.floor w a,
    λ b e. elsewhere-from l.floor w.state.table.leases a (stepped_as (checkpoint.step w b)) (step_from l.floor w b),
    cut-from l.floor w a,
  )
  shown-from off a inv = tt

  item_from : (w : World) (i : Item) → Inv c n l w → From l.floor (leases_of w.phase) (next c w i)
  item_from w i inv =
      next_cases c (λ j. From l.floor (leases_of w.phase)) (λ j e. tt) w.phase w.journal
      (restart-from w.phase w.journal inv) (shown-from w.phase w.journal inv) i

-- the floor never falls
-- ## a token, and what holds of the worker of each lease that has it
module _ (P : ℕ → Type 0) (o g : ℕ) where
  pub record Own (floor : ℕ) (leases : List (Entry Lease)) : Type 0 where
    pub below : g < floor
    pub own : (l : Lease) → lookup o leases ≡ some l → l.generation.0 ≡ g → P l.worker

  own-kept : (floor higher : ℕ) (before now : List (Entry Lease)) → floor ≤ higher → Origins floor before now → Own floor before → Own higher now
  own-kept floor higher before now h from k =
      record {
        below = omega (arith, k.below);
        own = λ l e s. go l e s (from o l e);
      }
    where
      go : (l : Lease) → lookup o now ≡ some l → l.generation.0 ≡ g → Origin floor (lookup o before) l → P l.worker
      go l e s (fresh f) = absurd (omega (arith, k.below))
      go l e s (kept m q x y) = subst P y (k.own m q (x ∙ s))

  module _ (c : Configuration) (n : ℕ) (accepted : Passed (start_table c n)) where
    abbrev pub Holds : Ledger → World → Type 0
    Holds l w = Inv c n l w × Own l.floor (leases_of w.phase)

    each : (l : Ledger) (w : World) (i : Item) → Holds l w → Answered noted (Law c.settings.policy) Holds l (next c w i)
    each l w i h = go (next c w i) (item-kept c n accepted l w i h.0) (item_from c n accepted l w i h.0)
      where
        go : (x : Option After) → Answered noted (Law c.settings.policy) (Inv c n) l x → From l.floor (leases_of w.phase) x
            → Answered noted (Law c.settings.policy) Holds l x
        go none m f = tt
        go (some t) m f =
            record {
              says = m.says;
              keeps = (
                m.keeps,
                own-kept l.floor (noted l t.event).floor (leases_of w.phase) (leases_of t.phase)
                    (floor-rises l.floor (effect_of t.event) m.says.1) f h.1,
              );
            }

    -- whatever comes after
    pub held_after : (items : List Item) (l : Ledger) (w : World) → Holds l w → Holds (folded noted l (run c w items)) (ends c w items)
    held_after = at-end noted (Law c.settings.policy) Holds c each

-- a claim that hands out makes the token its worker's
module _ (s : State) (a : List ℕ) (v o now : ℕ) (t : After) (h : HandOut) where
  abbrev Its : Type 0
  Its = Own (λ w. w ≡ v) h.offset h.generation (suc h.generation) (leases_of t.phase)

  handed_out : asked s a v (claim o now) ≡ some t → t.event ≡ claimed o now (done h) → Its
  handed_out =
      claim_cases s v o now (λ x. answered_as a (claimed o now) x ≡ some t → t.event ≡ claimed o now (done h) → Its)
      (λ r f e. absurd (none-ne-some r (sym (ap refusal_of (ap (λ (x : After). x.event) (some_inj f) ∙ e)))))
      (λ p f e.
      let same : hand_out s o ≡ h = some_inj (ap (λ (y : Event). handed (effect_of y)) (ap (λ (x : After). x.event) (some_inj f) ∙ e)) in
      rw (← same, ← some_inj f) (record {
        below = omega arith;
        own = λ l q z.
            let new : new_lease s.table v o now ≡ l = some_inj (sym (lookup-put-same o (new_lease s.table v o now) s.table.leases) ∙ q) in
            rw (← new);
      }))

-- a call of another worker, with the state that it finds
others-call : (c : Configuration) (n : ℕ) (l : Ledger) (p : Phase) (a : List ℕ) (v o g : ℕ) → Inv c n l (world p a) → Own (λ u. u ≡ v) o g l.floor (leases_of p)
    → (w : ℕ) (q : Ask) → (w ≡ v → ⊥) → token_in q ≡ some (o, g) → (u : After) → Asked p a w q u
    → NotOwn (rows_for c w (operation_of q)) (refusal_of u.event)
others-call c n l p a v o g inv k w q other e u x =
    let s : State = x.state in
    let here : Inv c n l (world (idle s) a) = rw x.there at inv in
    let own : Own (λ u. u ≡ v) o g l.floor s.table.leases = rw x.there at k in
    let away : NotOwn (call_rows s w (operation_of q)) (refusal_of u.event) =
    rw (token-answer s a w u q o g e x.says)
    (not_own s w (operation_of q) o g (own_rows s q) (λ m y z d. other (sym d ∙ own.own m y z))) in
    rw here.callable.settings at away

pub token-of-one : TokenOfOne
unfolding TokenOfOne
token-of-one c n s before between f e v o now h t made is w q other token u asks =
    let r = reached c n s before f e in
    let first : World = ends c (fresh_world s n) before in
    let x = ask-made c first.phase first.journal v t (claim o now) made in
    let kept : Made noted (Law c.settings.policy) (Inv c n) r.ledger t =
    rw made at (item-kept c n r.accepted r.ledger first (call (ask v (claim o now))) r.inv) in
    let floor : (noted r.ledger t.event).floor ≡ suc h.generation = ap (λ (y : Event). (noted r.ledger y).floor) is in
    let own : Own (λ u. u ≡ v) h.offset h.generation (noted r.ledger t.event).floor (leases_of t.phase) =
    rw floor (handed_out x.state first.journal v o now t h x.says is) in
    let k = held_after (λ u. u ≡ v) h.offset h.generation c n r.accepted between (noted r.ledger t.event) (after t) (kept.keeps, own) in
    let left : World = ends c (after t) between in
    others-call c n (folded noted (noted r.ledger t.event) (run c (after t) between)) left.phase left.journal v h.offset h.generation
    k.0 k.1 w q other token u (ask-made c left.phase left.journal w u q asks)
