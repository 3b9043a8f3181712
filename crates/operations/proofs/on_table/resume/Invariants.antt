-- `resume` is safe: the table keeps its invariant. Assumes nothing.
use Rattle.lease.specs.State.{Sound}
use Rattle.operations.proofs.on_table.resume.Given as goal

abbrev pub invariant-loop-part : goal.invariant-loop-part
invariant-loop-part l = Sound l.so_far × Sound l.table
