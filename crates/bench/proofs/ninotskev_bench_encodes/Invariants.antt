-- `ninotskev_bench_encodes` meets its contract. The loop's invariant: the writes that are left lead from the bytes to the end.
-- Assumes nothing.
use Prim.Native.Nat.{◌-◌}
use mathlib.Core.Path.{◌≡◌}
use lib.ListN.{length}
use Rattle.cursor.specs.View.{view}
use Rattle.bench.specs.Drivers.{writes}
use Rattle.bench.proofs.ninotskev_bench_encodes.Given as goal

abbrev pub invariant-loop-i : goal.invariant-loop-i
invariant-loop-i l = (length l.out ≡ length l.initial.out) × (writes (l.n - l.i) (view l.cursor) l.out ≡ writes l.n (view l.cursor) l.initial.out)
