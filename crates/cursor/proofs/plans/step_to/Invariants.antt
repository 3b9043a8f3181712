-- `step_to` meets its contract. The loop's invariant: the offset came from `at` to `to` with so many looks. Assumes nothing.
use Rattle.cursor.specs.View.{ack_cursor, Whole}
use Rattle.cursor.proofs.Plan.{Stepping}
use Rattle.cursor.proofs.plans.step_to.Given as goal

abbrev pub invariant-loop-to : goal.invariant-loop-to
invariant-loop-to l =
    (w : Whole (ack_cursor l.committed l.starts l.ends l.runs)) → Stepping (ack_cursor l.committed l.starts l.ends l.runs) w l.at l.offset l.to l.looks
