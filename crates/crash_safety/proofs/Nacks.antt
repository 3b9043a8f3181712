-- The state of a list has the configuration's hard cap and hours throughout, so no nack in it outlasts the next opening from the cap on.
-- Assumes nothing.
use Prim.Native.Nat.{ℕ}
use mathlib.Core.Path.{◌≡◌, refl}
use mathlib.Core.List.{List, [], ◌∷◌}
use mathlib.Core.Option.{Option, none, some}
use lib.Dec.{eqb}
use lib.ListN.{length}
use Rattle.types.specs.Refusal.{Result, refused, done}
use Rattle.types.specs.Table.{Passed}
use Rattle.types.proofs.Cases.{split}
use Rattle.consumer.specs.State.{Configuration, State}
use Rattle.consumer.proofs.Open.{claim_cases, ack_cases, nack_cases, progress_cases, commit_cases}
use Rattle.consumer.proofs.Nacks.{deadline-within}
use Rattle.checkpoint.specs.Checkpoint as checkpoint
use Rattle.checkpoint.specs.Checkpoint.{Writing, is_last}
use Rattle.checkpoint.proofs.Open.{begin-says}
use Rattle.starts.specs.Restart as restarts
use Rattle.starts.specs.Restart.{start_table}
use Rattle.starts.proofs.Open.{start-says}
use Rattle.machine.specs.Calls.{Ask, claim, ack, term, nack, progress, commit, look, Event, claimed, acked, termed, nacked, progressed, committed}
use Rattle.machine.specs.Transitions.{Phase, idle, writing, off, After, answered_as, asked, began_as, stepped_as, restarted_as}
use Rattle.power_cut.specs.Cut.{Cut, old, new, torn, is_torn, cut_at, cut_on}
use Rattle.crash_safety.specs.Runs.{Item, keeps_journal, World, world, next, run, fresh_world}
use Rattle.crash_safety.specs.Nacks.{NackInTime, NacksInTime, NacksWithinCap}
use Rattle.crash_safety.proofs.Law.{Ledger, empty_ledger, noted, Law, Along}
use Rattle.crash_safety.proofs.Runs.{Answered, along}
use Rattle.crash_safety.proofs.Items.{Shown, next_cases}
use Rattle.crash_safety.proofs.Invariant.{Inv}
use Rattle.crash_safety.proofs.Journals.{restart-finds}
use Rattle.crash_safety.proofs.Kept.{item-kept}
use Rattle.crash_safety.proofs.Start.{begins_well}

-- ## the configuration of the leases, and the hours
module _ (c : Configuration) where
  abbrev Of : State → Type 0
  Of s = (s.table.config ≡ c.lease) × (s.settings.hours ≡ c.settings.hours)

  -- who can be called has them
  abbrev Has : Phase → Type 0
  Has (idle s) = Of s
  Has (writing w) = Of w.state
  Has off = Unit {0}

  -- an item is a nack in time, or no nack, and leaves them
  abbrev Next : Option After → Type 0
  Next none = Unit {0}
  Next (some t) = NackInTime c t.event × Has t.phase

  module _ (s : State) (a : List ℕ) (has : Of s) where
    ask-next : (w : ℕ) (q : Ask) → Next (asked s a w q)
    ask-next w (claim o now) = claim_cases s w o now (λ x. Next (answered_as a (claimed o now) x)) (λ r. (tt, has)) (λ p. (tt, has))
    ask-next w (ack o g) = ack_cases s w o g (λ x. Next (answered_as a (acked o g) x)) (λ r. (tt, has)) (λ p. (tt, has))
    ask-next w (term o g) = ack_cases s w o g (λ x. Next (answered_as a (termed o g) x)) (λ r. (tt, has)) (λ p. (tt, has))
    ask-next w (nack o g now d) =
        nack_cases s w o g now d (λ x. Next (answered_as a (nacked o g now d) x)) (λ r. (tt, has)) (λ p. (rw (← has.0, ← has.1) (deadline-within s o now d), has))
    ask-next w (progress o g now) = progress_cases s w o g now (λ x. Next (answered_as a (progressed o g now) x)) (λ r. (tt, has)) (λ p. (tt, has))
    ask-next w (commit bound) =
        commit_cases s w bound (λ x. Next (answered_as a (committed bound) x)) (λ r. (tt, has)) (λ p h. (tt, has)) (λ p. (tt, has))
    ask-next w (look q) = (tt, has)

    began-next : (w : ℕ) (r : Result Writing) → checkpoint.begin s w ≡ r → Next (began_as s a r)
    began-next w (refused r) e = (tt, has)
    began-next w (done x) e = (tt, rw (← (begin-says s w x e).1) has)

  module _ (w : Writing) (has : Of w.state) (a : List ℕ) where
    step-next : Next (stepped_as (checkpoint.step w a))
    unfolding checkpoint.step
    step-next =
        split (eqb (length a) w.state.size)
        (λ e. rw e (split (is_last w) (λ q. rw q (tt, has)) (λ q. rw q (tt, has))))
        (λ e. rw e (tt, has))

    cut-at-next : (x : Cut) → Next (cut_at w a x)
    cut-at-next old = (tt, tt)
    cut-at-next new = (tt, tt)
    cut-at-next (torn b) = split (is_torn b) (λ e. rw e (tt, tt)) (λ e. rw e tt)

    cut-next : (x : Cut) → Next (cut_on w a x)
    cut-next x = split (eqb (length a) w.state.size) (λ e. rw e (cut-at-next x)) (λ e. rw e tt)

  elsewhere-next : (a : List ℕ) (x : Option After) → Next x → Next (keeps_journal a x)
  elsewhere-next a none h = tt
  elsewhere-next a (some t) h = h

  shown : (p : Phase) (a : List ℕ) → Has p → Shown (λ i. Next) a p
  shown (idle s) a has = (λ w q e. ask-next s a has w q, λ w. began-next s a has w (checkpoint.begin s w) refl)
  shown (writing w) a has = (
    step-next w has a,
    λ b e. elsewhere-next a (stepped_as (checkpoint.step w b)) (step-next w has b),
    cut-next w has a,
  )
  shown off a has = tt

-- ## every list
module _ (c : Configuration) (n : ℕ) (accepted : Passed (start_table c n)) where
  -- a restart takes the configuration's
  restart-next : (l : Ledger) (p : Phase) (a : List ℕ) → Inv c n l (world p a) → Next c (restarted_as p a (restarts.restart c a))
  restart-next l p a inv = rw (restart-finds c n a inv.saved accepted inv.journal) (tt, (refl, refl))

  abbrev Keeps : Ledger → World → Type 0
  Keeps l w = Inv c n l w × Has c w.phase

  abbrev Says : Ledger → Event → Type 0
  Says l e = NackInTime c e

  each : (l : Ledger) (w : World) (i : Item) → Keeps l w → Answered noted Says Keeps l (next c w i)
  each l w i k =
      go (next c w i) (item-kept c n accepted l w i k.0)
      (next_cases c (λ j. Next c) (λ j e. tt) w.phase w.journal (restart-next l w.phase w.journal k.0)
      (shown c w.phase w.journal k.1) i)
    where
      go : (x : Option After) → Answered noted (Law c.settings.policy) (Inv c n) l x → Next c x → Answered noted Says Keeps l x
      go none m h = tt
      go (some t) m h = record { says = h.0; keeps = (m.keeps, h.1) }

  all_in_time : (es : List Event) (l : Ledger) → Along noted Says l es → NacksInTime c es
  unfolding Along NacksInTime
  all_in_time [] l k = tt
  all_in_time (e ∷ es) l k = (k.0, all_in_time es (noted l e) k.1)

pub nacks-within_cap : NacksWithinCap
unfolding NacksWithinCap
nacks-within_cap c n s items f e =
    let b = begins_well c n s f e in
    let has : Of c s = rw (← (start-says c n s e).1) (refl, refl) in
    all_in_time c n b.accepted (run c (fresh_world s n) items) empty_ledger
    (along noted (Says c n b.accepted) (Keeps c n b.accepted) c (each c n b.accepted) items empty_ledger (fresh_world s n) (b.inv, has))
