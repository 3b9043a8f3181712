-- `open_between_in_place` meets its contract. The loop's invariant: the numbers of the first i stretches are written, the places behind
-- them are as they were. Assumes nothing.
use Prim.Native.Nat.{◌*◌, ◌≤◌}
use Rattle.types.proofs.Loops.{Filling}
use Rattle.cursor.specs.View.{ack_cursor, view}
use Rattle.cursor.specs.Unsettled.{stretches, bounds}
use Rattle.cursor.proofs.open.open_between_in_place.Given as goal

abbrev pub invariant-loop-i : goal.invariant-loop-i
invariant-loop-i l =
    (l.i ≤ l.count) × Filling (bounds (stretches (view (ack_cursor l.committed l.starts l.ends l.runs)) l.a l.b)) l.initial.out l.out (2 * l.count) (2 * l.i)
