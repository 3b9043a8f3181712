-- `shift` meets its contract. The loop's invariant: the times before the place are forward.
use lib.ListN.{length}
use Rattle.types.proofs.Loops.{Mapping}
use Rattle.lease.specs.Helpers.{later_by}
use Rattle.lease.proofs.stored.shift.Given as goal

abbrev pub invariant-loop-time : goal.invariant-loop-time
invariant-loop-time l = Mapping (later_by l.delta) l.initial.times l.times (length l.initial.times) l.time-index
