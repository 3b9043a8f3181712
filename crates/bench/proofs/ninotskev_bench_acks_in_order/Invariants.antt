-- `ninotskev_bench_acks_in_order` meets its contract. The loop's invariant: the acks from i on lead from the cursor to the end.
-- Assumes nothing.
use Prim.Native.Nat.{◌-◌}
use mathlib.Core.Path.{◌≡◌}
use Rattle.cursor.specs.Cursor.{resume}
use Rattle.cursor.specs.View.{view, Sound}
use Rattle.bench.specs.Drivers.{rising, acks}
use Rattle.bench.proofs.ninotskev_bench_acks_in_order.Given as goal

abbrev pub invariant-loop-i : goal.invariant-loop-i
invariant-loop-i l = Sound l.cursor × (acks (view l.cursor) (rising l.i (l.n - l.i)) ≡ acks (resume 0) (rising 0 l.n))
