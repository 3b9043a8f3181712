-- `commit_test` meets its contract: the worker's rows, then Unchanged. Assumes nothing.
use Rattle.std.proofs.lemmas.Result.{err_from_is_err_and}
use Rattle.types.specs.Refused.{refusal_of}
use Rattle.consumer.specs.Parts.{deciding}
use Rattle.consumer.specs.View.{view}
use Rattle.consumer.specs.declared.Consumer.{Consumer}
use Rattle.consumer.proofs.CallsCommit.{is_unpermitted, is_tested}
use Rattle.consumer.proofs.steps.commit_test.Goals as goal
use Rattle.consumer.proofs.steps.commit_test.Goals.{Start}

-- a consumer with the parts that the arguments are
abbrev made : Start → Consumer → Consumer
made s = deciding s.args.rights.now s.args.committed

pub returns-in_err-permission_of : goal.returns-in_err-permission_of
returns-in_err-permission_of c x w =
    let p = err_from_is_err_and c.from_residual.result c.from_residual.ensures.1 in
    rw (p.1, p.2) (is_unpermitted (view (made (goal.at.returns-in_err-permission_of c).Start x)) c.args.worker c.args.bound (refusal_of c.in_err-permission_of.field-0.0) c.in_err-permission_of.ensures)

pub returns : goal.returns
returns c x w =
    is_tested (view (made (goal.at.returns c).Start x)) c.args.worker c.args.bound c.in_ok-permission_of.ensures
