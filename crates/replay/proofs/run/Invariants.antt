-- `run` is safe and ends: from turn to turn it keeps what goes on.
use Rattle.std.proofs.Common.{length}
use Rattle.replay.specs.Running.{Going}
use Rattle.replay.proofs.run.Given as goal

abbrev pub invariant-loop : goal.invariant-loop
invariant-loop g l = Going (length l.buf) (length l.area) l.state
