-- `counts` is safe: the list keeps its invariant. Assumes nothing.
use Rattle.operations.specs.State.{ListReady}
use Rattle.operations.proofs.on_list.counts.Given as goal

abbrev pub invariant-loop-i : goal.invariant-loop-i
invariant-loop-i l = ListReady l.list
