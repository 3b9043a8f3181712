-- `ack_in_place` meets its contract. Assumes nothing.
use Rattle.cursor.specs.View.{ack_cursor}
use Rattle.cursor.proofs.Edits.{ack-made}
use Rattle.cursor.proofs.in_place.ack_in_place.Goals as goal

pub returns : goal.returns
returns c =
    let a = c.args in
    ack-made (ack_cursor a.committed a.starts.now a.ends.now a.runs) a.offset a.max_runs c.plan_ack-plan.result c.apply.new.column c.apply-2.new.column c.plan_ack-plan.ensures c.apply.ensures c.apply-2.ensures
