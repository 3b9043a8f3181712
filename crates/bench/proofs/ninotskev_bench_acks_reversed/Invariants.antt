-- `ninotskev_bench_acks_reversed` meets its contract. The loop's invariant: the batches from i on lead from the cursor to the end.
-- Assumes nothing.
use Prim.Native.Nat.{◌-◌}
use mathlib.Core.Path.{◌≡◌}
use Rattle.cursor.specs.Cursor.{resume}
use Rattle.cursor.specs.View.{view, Sound}
use Rattle.bench.specs.Drivers.{batches}
use Rattle.bench.proofs.ninotskev_bench_acks_reversed.Given as goal

abbrev pub invariant-loop-i : goal.invariant-loop-i
invariant-loop-i l = Sound l.cursor × (batches (view l.cursor) l.i (l.n - l.i) ≡ batches (resume 0) 0 l.n)
