-- `claim_test` meets its contract: the worker's rows, then the claim's own. Assumes nothing.
use mathlib.Core.Path.{sym, ◌∙◌}
use mathlib.Core.Option.{none-ne-some}
use Rattle.std.proofs.lemmas.Result.{err_from_is_err_and}
use Rattle.types.specs.Refused.{refusal_of}
use Rattle.cursor.specs.View.{ack_cursor}
use Rattle.consumer.specs.Parts.{permitting, permitted, testing}
use Rattle.consumer.specs.View.{view}
use Rattle.consumer.specs.declared.Consumer.{Consumer}
use Rattle.consumer.proofs.Permission.{is_known}
use Rattle.consumer.proofs.CallsClaim.{claim_unpermitted, claim-permitted}
use Rattle.consumer.proofs.steps.claim_test.Goals as goal
use Rattle.consumer.proofs.steps.claim_test.Goals.{Start}

-- a consumer with the parts that the arguments are
abbrev made : Start → Consumer → Consumer
made s =
    permitted s.args.rights.now
    (testing s.args.hours s.args.ceiling s.args.threshold (ack_cursor s.args.committed s.args.starts.now s.args.ends.now s.args.runs) s.args.len s.args.carried_len
    s.args.next_generation s.args.redeliveries s.args.offsets.now s.args.slots.now s.args.deadlines.now s.args.carried_offsets.now
    s.args.carried_counts.now)

pub returns-in_err-permission_of : goal.returns-in_err-permission_of
returns-in_err-permission_of c =
    let p = err_from_is_err_and c.from_residual.result c.from_residual.ensures.1 in
    let f = refusal_of c.in_err-permission_of.field-0.0 in
    rw (p.1, p.2) (
      record {
        known = λ e. absurd (none-ne-some f (sym e));
        is = λ x w. claim_unpermitted (view (made (goal.at.returns-in_err-permission_of c).Start x)) c.args.worker c.args.offset c.args.now f c.in_err-permission_of.ensures;
      },
      tt,
    )

pub returns : goal.returns
returns c = (
  record {
    known = λ e. is_known c.args.rights.now c.args.worker 1 c.in_ok-permission_of.ensures;
    is = λ x w.
        c.offset_test.ensures.0 (permitting c.args.rights.now x) w
        ∙ claim-permitted (view (made (goal.at.returns c).Start x)) c.args.worker c.args.offset c.args.now c.in_ok-permission_of.ensures;
  },
  c.offset_test.ensures.1,
)
