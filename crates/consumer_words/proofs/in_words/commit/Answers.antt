-- `commit` meets its contract: 38, 39, and what is answered a worker who may commit. Assumes nothing.
use Rattle.cursor.proofs.Refusals.{err_is}
use Rattle.types.specs.Refused.{refusal_of}
use Rattle.consumer_words.proofs.State.{unpermitted_so}
use Rattle.consumer_words.proofs.in_words.commit.Goals as goal

pub returns-in_err-permission_of : goal.returns-in_err-permission_of
returns-in_err-permission_of c =
    let h = c.in_err-permission_of in
    rw (err_is c.from_residual.result h.field-0.0 c.from_residual.ensures.1)
    (unpermitted_so c.requires c.args.worker c.args.bound.0 (refusal_of h.field-0.0) h.ensures)

pub returns : goal.returns
returns c = c.commit_below.ensures c.args.worker c.in_ok-permission_of.ensures
