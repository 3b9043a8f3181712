-- `commit_in_place` meets its contract. Assumes nothing.
use Rattle.cursor.specs.View.{ack_cursor}
use Rattle.cursor.proofs.Edits.{commit-made}
use Rattle.cursor.proofs.in_place.commit_in_place.Goals as goal

pub returns : goal.returns
returns c =
    let a = c.args in
    commit-made (ack_cursor a.committed a.starts.now a.ends.now a.runs) a.bound c.plan_commit-plan.result c.apply.new.column c.apply-2.new.column c.plan_commit-plan.ensures c.apply.ensures c.apply-2.ensures
