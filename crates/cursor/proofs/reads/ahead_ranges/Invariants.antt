-- `ahead_ranges` meets its contract. The loop's invariant: the numbers of the first i ranges are written, the places after them are as
-- they were. Assumes nothing.
use Prim.Native.Nat.{◌*◌, ◌≤◌}
use Rattle.types.proofs.Loops.{Filling}
use Rattle.cursor.specs.Unsettled.{bounds}
use Rattle.cursor.specs.Layout.{view}
use Rattle.cursor.proofs.reads.ahead_ranges.Given as goal

abbrev pub invariant-loop-i : goal.invariant-loop-i
invariant-loop-i l = (l.i ≤ l.runs) × Filling (bounds (view l.cursor).ahead) l.initial.out l.out (2 * l.runs) (2 * l.i)
