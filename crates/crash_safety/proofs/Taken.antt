-- Between two headers at most 4,096 generations are taken: a header gives a ceiling of 4,096 above the next generation, one is taken below
-- the ceiling alone, and a restart begins at it. So what was taken, and what is left up to the ceiling, are at most 4,096 together.
-- Assumes nothing.
use Prim.Native.Nat.{ℕ, ◌+◌, ◌≤◌}
use native.Mathlib.Omega.{arith}
use mathlib.Core.Path.{◌≡◌, refl}
use mathlib.Core.Bool.{Bool, true, false}
use mathlib.Core.List.{List, [], ◌∷◌}
use mathlib.Core.Option.{Option, none, some}
use lib.Dec.{eqb}
use lib.ListN.{length}
use Rattle.types.specs.Refusal.{Result, refused, done}
use Rattle.types.specs.Table.{Answer, Passed}
use Rattle.types.proofs.Cases.{split}
use Rattle.types.proofs.Table.{checked-done}
use Rattle.consumer.specs.State.{Configuration, State}
use Rattle.consumer.specs.Calls as consumer
use Rattle.consumer.specs.Valid.{Fits}
use Rattle.consumer.proofs.Open.{claim_cases, ack_cases, nack_cases, progress_cases, commit_cases}
use Rattle.checkpoint.specs.Checkpoint as checkpoint
use Rattle.checkpoint.specs.Checkpoint.{Writing, is_last}
use Rattle.checkpoint.proofs.Open.{begin-says}
use Rattle.starts.specs.Restart as restarts
use Rattle.starts.specs.Restart.{start_table, fresh, start}
use Rattle.machine.specs.Calls.{Ask, claim, ack, term, nack, progress, commit, look, Event, claimed, acked, termed, nacked, progressed, committed}
use Rattle.machine.specs.Transitions.{Phase, idle, writing, off, After, asked, began_as, stepped_as, restarted_as}
use Rattle.power_cut.specs.Cut.{Cut, old, new, torn, is_torn, cut_at, cut_on}
use Rattle.crash_safety.specs.Runs.{Item, keeps_journal, World, world, next, run, fresh_world}
use Rattle.crash_safety.specs.Effects.{writes, effect_of}
use Rattle.crash_safety.specs.Totals.{taken_after, taken_in}
use Rattle.crash_safety.proofs.Law.{Ledger, empty_ledger, noted, Law, Along, folded}
use Rattle.crash_safety.proofs.Runs.{Answered, along, at-end, fold_both, SaysBoth, KeepsBoth, Second, beside}
use Rattle.crash_safety.proofs.Invariant.{Inv}
use Rattle.crash_safety.proofs.Journals.{restart-finds}
use Rattle.crash_safety.proofs.Items.{Shown, next_cases}
use Rattle.crash_safety.proofs.Kept.{item-kept}
use Rattle.crash_safety.proofs.Start.{begins_well}

-- what an event makes of the number
abbrev pub taken_seen : ℕ → Event → ℕ
taken_seen n e = taken_after n (effect_of e)

abbrev pub Few : ℕ → Event → Type 0
Few n e = taken_seen n e ≤ 4096

-- ## the invariant
-- with what is left up to the ceiling
abbrev Fair : ℕ → State → Type 0
Fair n s = n + s.ceiling ≤ s.table.next_generation + 4096

abbrev FairIn : ℕ → Phase → Type 0
FairIn n (idle s) = Fair n s
FairIn n (writing w) = Fair n w.state
FairIn n off = Unit {0}

abbrev Room : Ledger → ℕ → World → Type 0
Room l n w = (n ≤ 4096) × FairIn n w.phase

abbrev Next : Ledger → ℕ → Option After → Type 0
Next l n = Second noted taken_seen Few Room (l, n)

-- ## each item
module _ (l : Ledger) (n : ℕ) (few : n ≤ 4096) where
  module _ (s : State) (a : List ℕ) (k : Fair n s) where
    abbrev Kept : {A : Type 0} → (Result A → Event) → Answer A State → Type 0
    Kept event r = Next l n (some (record { event = event r.outcome; phase = idle r.state; area = a }))

    claim-room : (w o now : ℕ) → Kept (claimed o now) (consumer.claim s w o now)
    claim-room w o now =
        claim_cases s w o now (Kept (claimed o now)) (λ r. record { says = few; keeps = (few, k) })
        (λ p. record { says = omega (arith, p.below-ceiling); keeps = omega (arith, p.below-ceiling) })

    nack-room : (w o g now : ℕ) (d : Option ℕ) → Kept (nacked o g now d) (consumer.nack s w o g now d)
    nack-room w o g now d =
        nack_cases s w o g now d (Kept (nacked o g now d)) (λ r. record { says = few; keeps = (few, k) })
        (λ p. record { says = omega (arith, p.below-ceiling); keeps = omega (arith, p.below-ceiling) })

    ask-room : (w : ℕ) (q : Ask) → Next l n (asked s a w q)
    ask-room w (claim o now) = claim-room w o now
    ask-room w (ack o g) =
        ack_cases s w o g (Kept (acked o g)) (λ r. record { says = few; keeps = (few, k) }) (λ p. record { says = few; keeps = (few, k) })
    ask-room w (term o g) =
        ack_cases s w o g (Kept (termed o g)) (λ r. record { says = few; keeps = (few, k) }) (λ p. record { says = few; keeps = (few, k) })
    ask-room w (nack o g now d) = nack-room w o g now d
    ask-room w (progress o g now) =
        progress_cases s w o g now (Kept (progressed o g now)) (λ r. record { says = few; keeps = (few, k) })
        (λ p. record { says = few; keeps = (few, k) })
    ask-room w (commit bound) =
        commit_cases s w bound (Kept (committed bound)) (λ r. record { says = few; keeps = (few, k) })
        (λ p h. record { says = few; keeps = (few, k) }) (λ p. record { says = few; keeps = (few, k) })
    ask-room w (look q) = record { says = few; keeps = (few, k) }

    began-room : (w : ℕ) (r : Result Writing) → checkpoint.begin s w ≡ r → Next l n (began_as s a r)
    began-room w (refused r) e = record { says = few; keeps = (few, k) }
    began-room w (done x) e = record { says = few; keeps = (few, rw (← (begin-says s w x e).1) k) }

  step_room : (w : Writing) (a : List ℕ) → Fair n w.state → Next l n (stepped_as (checkpoint.step w a))
  unfolding checkpoint.step
  step_room w a k =
      split (eqb (length a) w.state.size)
      (λ e. rw e (split (is_last w)
      (λ q. rw q (record { says = omega arith; keeps = omega arith }))
      (λ q. rw q (record { says = few; keeps = (few, k) }))))
      (λ e. rw e (record { says = few; keeps = (few, k) }))

  -- nobody can be called, whether or not a header was left
  wrote : (header : Bool) → (taken_after n (writes header) ≤ 4096) × ((taken_after n (writes header) ≤ 4096) × Unit {0})
  wrote true = (omega arith, (omega arith, tt))
  wrote false = (few, (few, tt))

  cut-at-room : (w : Writing) (a : List ℕ) (x : Cut) → Next l n (cut_at w a x)
  cut-at-room w a old = record { says = few; keeps = (few, tt) }
  cut-at-room w a new = let h = wrote (is_last w) in record { says = h.0; keeps = h.1 }
  cut-at-room w a (torn b) = split (is_torn b) (λ e. rw e (record { says = few; keeps = (few, tt) })) (λ e. rw e tt)

  cut-room : (w : Writing) (a : List ℕ) (x : Cut) → Next l n (cut_on w a x)
  cut-room w a x = split (eqb (length a) w.state.size) (λ e. rw e (cut-at-room w a x)) (λ e. rw e tt)

  elsewhere-room : (a : List ℕ) (x : Option After) → Next l n x → Next l n (keeps_journal a x)
  elsewhere-room a none h = tt
  elsewhere-room a (some u) h = record { says = h.says; keeps = h.keeps }

  shown : (p : Phase) (a : List ℕ) → FairIn n p → Shown (λ i. Next l n) a p
  shown (idle s) a k = (λ w q e. ask-room s a k w q, λ w. began-room s a k w (checkpoint.begin s w) refl)
  shown (writing w) a k = (step_room w a k, λ b e. elsewhere-room a (stepped_as (checkpoint.step w b)) (step_room w b k), cut-room w a)
  shown off a k = tt

module _ (c : Configuration) (n : ℕ) (accepted : Passed (start_table c n)) where
  restart-room : (l : Ledger) (k : ℕ) (p : Phase) (a : List ℕ) → Inv c n l (world p a) → k ≤ 4096 → Next l k (restarted_as p a (restarts.restart c a))
  restart-room l k p a inv few =
      rw (restart-finds c n a inv.saved accepted inv.journal) (record { says = few; keeps = (few, omega arith) })

  item_room : (l : Ledger) (k : ℕ) (w : World) (i : Item) → Inv c n l w → Room l k w → Next l k (next c w i)
  item_room l k w i inv r =
      next_cases c (λ j. Next l k) (λ j e. tt) w.phase w.journal
      (restart-room l k w.phase w.journal inv r.0) (shown l k r.0 w.phase w.journal r.1) i

  -- ## every list
  abbrev fold : Ledger × ℕ → Event → Ledger × ℕ
  fold = fold_both noted taken_seen

  abbrev Says : Ledger × ℕ → Event → Type 0
  Says = SaysBoth (Law c.settings.policy) Few

  abbrev Keeps : Ledger × ℕ → World → Type 0
  Keeps = KeepsBoth (Inv c n) Room

  each : (b : Ledger × ℕ) (w : World) (i : Item) → Keeps b w → Answered fold Says Keeps b (next c w i)
  each b w i h =
      beside noted taken_seen (Law c.settings.policy) Few (Inv c n) Room b (next c w i)
      (item-kept c n accepted b.0 w i h.0)
      (item_room b.0 b.1 w i h.0 h.1)

taken-folded : (es : List Event) (l : Ledger) (n : ℕ) → (folded (fold_both noted taken_seen) (l, n) es).1 ≡ taken_in n es
unfolding folded taken_in
taken-folded [] l n = refl
taken-folded (e ∷ es) l n = taken-folded es (noted l e) (taken_seen n e)

-- a fresh consumer has no generation to give
fresh_fair : (c : Configuration) (n : ℕ) (s : State) → start c n ≡ done s → Fair 0 s
unfolding start
fresh_fair c n s e = rw (← (checked-done (start_table c n) (fresh c n) s e).1) (omega arith)

module _ (c : Configuration) (n : ℕ) (s : State) (items : List Item) (f : Fits c.settings) (e : start c n ≡ done s) where
  begins_fair : Keeps c n (begins_well c n s f e).accepted (empty_ledger, 0) (fresh_world s n)
  begins_fair = ((begins_well c n s f e).inv, (omega arith, fresh_fair c n s e))

  -- the law, and few taken, of each event
  pub few-taken : Along (fold_both noted taken_seen) (SaysBoth (Law c.settings.policy) Few) (empty_ledger, 0) (run c (fresh_world s n) items)
  few-taken =
      let b = begins_well c n s f e in
      along (fold c n b.accepted) (Says c n b.accepted) (Keeps c n b.accepted) c (each c n b.accepted) items (empty_ledger, 0) (fresh_world s n) begins_fair

  pub taken-few : taken_in 0 (run c (fresh_world s n) items) ≤ 4096
  taken-few =
      let b = begins_well c n s f e in
      let w = fresh_world s n in
      rw (← taken-folded (run c w items) empty_ledger 0)
      (at-end (fold c n b.accepted) (Says c n b.accepted) (Keeps c n b.accepted) c (each c n b.accepted) items (empty_ledger, 0) w begins_fair).1.0
