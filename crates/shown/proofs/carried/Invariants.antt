-- `carried` meets its contract. The loop's invariant: the entries from i on are left to put. Assumes nothing.
use Rattle.lease.specs.State.{carried_of}
use Rattle.text.proofs.Putting.{Left}
use Rattle.shown.specs.Shown.{count_text, marked}
use Rattle.shown.proofs.carried.Given as goal

abbrev pub invariant-loop-i : goal.invariant-loop-i
invariant-loop-i l = Left (marked count_text) (carried_of l.table) l.initial.out l.i l.out
