-- `claim_test` meets its contract: the worker's rows, then the offset's. Assumes nothing.
use mathlib.Core.Path.{◌∙◌}
use Rattle.cursor.proofs.Refusals.{err_is}
use Rattle.types.specs.Refused.{refusal_of}
use Rattle.consumer.proofs.CallsClaim.{claim_unpermitted, claim-permitted}
use Rattle.consumer_words.specs.Layout.{view}
use Rattle.consumer_words.proofs.steps.claim_test.Goals as goal

pub returns-in_err-permission_of : goal.returns-in_err-permission_of
returns-in_err-permission_of c =
    let h = c.in_err-permission_of in
    rw (err_is c.from_residual.result h.field-0.0 c.from_residual.ensures.1)
    (record { is = claim_unpermitted (view c.args.words.now) c.args.worker c.args.offset.0 c.args.now (refusal_of h.field-0.0) h.ensures; place = tt })

pub returns : goal.returns
returns c =
    record {
      is = c.offset_test.ensures.is ∙ claim-permitted (view c.args.words.now) c.args.worker c.args.offset.0 c.args.now c.in_ok-permission_of.ensures;
      place = c.offset_test.ensures.place;
    }
