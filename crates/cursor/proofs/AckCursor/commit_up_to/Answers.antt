-- `commit_up_to` meets its contract. Assumes nothing.
use Rattle.cursor.proofs.Edits.{commit-made}
use Rattle.cursor.proofs.AckCursor.commit_up_to.Goals as goal

pub returns : goal.returns
returns c =
    commit-made c.args.self c.args.up_to.0 c.plan_commit-plan.result c.apply.new.column c.apply-2.new.column c.plan_commit-plan.ensures c.apply.ensures c.apply-2.ensures
