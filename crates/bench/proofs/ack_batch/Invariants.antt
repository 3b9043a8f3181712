-- `ack_batch` meets its contract. The loop's invariant: the acks that are left lead from the cursor to the end. Assumes nothing.
use Prim.Native.Nat.{◌≤◌}
use mathlib.Core.Path.{◌≡◌}
use Rattle.cursor.specs.View.{view, Sound}
use Rattle.bench.specs.Drivers.{falling, acks}
use Rattle.bench.proofs.ack_batch.Given as goal

abbrev pub invariant-loop-left : goal.invariant-loop-left
invariant-loop-left l = (l.left ≤ l.count) × Sound l.cursor × (acks (view l.cursor) (falling l.base l.left) ≡ acks (view l.initial.cursor) (falling l.base l.count))

abbrev pub decreases-loop-left : goal.decreases-loop-left
decreases-loop-left l = l.left
