-- `put_counts` meets its contract. The loop's invariant: the first i counts are stored. Assumes nothing.
use Prim.Native.Nat.{◌≤◌}
use lib.ListN.{length}
use Rattle.types.proofs.Loops.{Filling}
use Rattle.lease.proofs.stored.put_counts.Given as goal

abbrev pub invariant-loop-i : goal.invariant-loop-i
invariant-loop-i l = (l.count ≤ length l.counts) × Filling l.counts l.initial.column l.column l.count l.i
