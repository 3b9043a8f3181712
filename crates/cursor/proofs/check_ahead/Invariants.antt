-- `check_ahead` meets its contract. Assumes nothing.
use Prim.Native.Nat.{ℕ, ◌<◌, ◌≤◌}
use lib.ListN.{get_or}
use Rattle.types.specs.Limits.{MAX}
use Rattle.cursor.specs.Ranges.{range}
use Rattle.cursor.proofs.Walking.{Walked}
use Rattle.cursor.proofs.check_ahead.Given as goal

abbrev pub invariant-loop-range : goal.invariant-loop-range
invariant-loop-range l = Walked l.committed l.ahead l.range-index l.last × ((k : ℕ) → k < l.range-index → (get_or l.ahead k (range 0 0)).end ≤ MAX)
