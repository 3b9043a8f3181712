-- `ack_bounded` meets its contract. Assumes nothing.
use Rattle.cursor.proofs.Edits.{ack-made}
use Rattle.cursor.proofs.AckCursor.ack_bounded.Goals as goal

pub returns : goal.returns
returns c =
    ack-made c.args.self c.args.offset.0 c.args.max_runs c.plan_ack-plan.result c.apply.new.column c.apply-2.new.column c.plan_ack-plan.ensures c.apply.ensures c.apply-2.ensures
