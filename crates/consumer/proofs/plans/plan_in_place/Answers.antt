-- `plan_in_place` meets its contract: who may not look is refused, and else the cursor answers. Assumes nothing.
use borrow.Author.Rules.{rules}
use Rattle.std.proofs.lemmas.Result.{err_from_is_err_and}
use Rattle.cursor.specs.View.{ack_cursor}
use Rattle.consumer.specs.State.{State}
use Rattle.consumer.specs.View.{view}
use Rattle.consumer.specs.Parts.{planning}
use Rattle.consumer.specs.declared.Consumer.{Consumer}
use Rattle.consumer.proofs.Planned.{plan-refused, plan-permitted}
use Rattle.consumer.proofs.plans.plan_in_place.Goals as goal
use Rattle.consumer.proofs.plans.plan_in_place.Goals.{Start}

-- the state of a consumer that has the parts which are lent
abbrev asked : Start → Consumer → State
asked s x = view (planning s.args.rights.now (ack_cursor s.args.committed s.args.starts.now s.args.ends.now s.args.runs) x)

pub returns-in_err-permission_of : goal.returns-in_err-permission_of
returns-in_err-permission_of c x =
    let p = err_from_is_err_and c.from_residual.result c.from_residual.ensures.1 in
    rw (p.1, p.2) (plan-refused (asked (goal.at.returns-in_err-permission_of c).Start x) c.args.worker c.args.offsets.now c.args.out.now c.in_err-permission_of.field-0.0 c.in_err-permission_of.ensures)

pub returns : goal.returns
returns c x =
    plan-permitted (asked (goal.at.returns c).Start x) c.args.worker c.args.offsets.now c.args.out.now c.in_ok-permission_of.ensures _ c.plan_in_place.result c.plan_in_place.ensures
