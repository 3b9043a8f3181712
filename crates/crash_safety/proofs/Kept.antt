-- Each item of a list keeps demand 3's invariant and obeys the law. Assumes nothing.
use Prim.Native.Nat.{ℕ}
use mathlib.Core.List.{List}
use mathlib.Core.Option.{Option}
use Rattle.types.specs.Table.{Passed}
use Rattle.consumer.specs.State.{Configuration}
use Rattle.starts.specs.Restart.{start_table}
use Rattle.machine.specs.Transitions.{Phase, idle, writing, off, After}
use Rattle.crash_safety.specs.Runs.{Item, World, world, next}
use Rattle.crash_safety.proofs.Law.{Ledger, noted, Law}
use Rattle.crash_safety.proofs.Runs.{Answered}
use Rattle.crash_safety.proofs.Items.{Shown, next_cases}
use Rattle.crash_safety.proofs.Invariant.{Inv}
use Rattle.crash_safety.proofs.Asks.{ask-kept}
use Rattle.crash_safety.proofs.Steps.{restart-kept, begin-kept, step_kept, elsewhere-kept, cut-kept}

module _ (c : Configuration) (n : ℕ) (accepted : Passed (start_table c n)) (l : Ledger) where
  abbrev Kept : Item → Option After → Type 0
  Kept i = Answered noted (Law c.settings.policy) (Inv c n) l

  kept : (p : Phase) (a : List ℕ) → Inv c n l (world p a) → Shown Kept a p
  kept (idle s) a inv = (ask-kept c n l s a inv, begin-kept c n l a s inv)
  kept (writing w) a inv = (step_kept c n l a w inv, elsewhere-kept c n l a w inv, cut-kept c n l a w inv)
  kept off a inv = tt

  pub item-kept : (w : World) (i : Item) → Inv c n l w → Kept i (next c w i)
  item-kept w i inv =
      next_cases c Kept (λ j e. tt) w.phase w.journal
      (restart-kept c n l w.journal accepted w.phase inv)
      (kept w.phase w.journal inv) i
