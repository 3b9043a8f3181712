-- `progress_in_place` meets its contract: behind the token's test the table's answer is the consumer's, on every consumer that has the
-- parts that it is lent. Assumes nothing.
-- a consumer with the parts that the arguments are
use mathlib.Core.Path.{refl}
use native.Mathlib.Omega.{arith}
use Rattle.std.proofs.lemmas.Result.{err_from_is_err_and}
use Rattle.types.specs.Refused.{refusal_of}
use Rattle.lease.specs.Answers.{extend_of}
use Rattle.consumer.specs.Rights as rights
use Rattle.consumer.specs.Calls.{token_rows, attempt_of}
use Rattle.consumer.specs.Parts.{progressing}
use Rattle.consumer.specs.View.{view}
use Rattle.consumer.specs.declared.Consumer.{Consumer}
use Rattle.consumer.proofs.CallsReturns.{table-whole}
use Rattle.consumer.proofs.CallsToken.{first-refused, test-passed, progress-refused, progress-is}
use Rattle.lease.proofs.Tokens.{owned-used}
use Rattle.consumer.proofs.in_place.progress_in_place.Goals as goal
use Rattle.consumer.proofs.in_place.progress_in_place.Goals.{Start}

abbrev made : Start → Consumer → Consumer
made s =
    progressing s.args.rights.now s.args.config s.args.len s.args.offsets.now s.args.slots.now s.args.generations.now s.args.attempt_starts.now s.args.deadlines.now
    s.args.deliveries.now s.args.workers.now

pub returns-in_err-held : goal.returns-in_err-held
returns-in_err-held c x w =
    let k = made (goal.at.returns-in_err-held c).Start x in
    let r = refusal_of c.in_err-held.field-0.0 in
    let p = err_from_is_err_and c.from_residual.result c.from_residual.ensures.1 in
    rw (p.1, p.2)
    (progress-refused k w.sound c.args.worker c.args.offset c.args.generation c.args.now r
    (first-refused (token_rows (view k) c.args.worker rights.extending c.args.offset c.args.generation) (attempt_of (view k) c.args.offset) r
    (c.in_err-held.ensures.0 k w rights.extending refl)))

pub extend_at-requires : goal.extend_at-requires
extend_at-requires c =
    omega (arith, owned-used c.args.offset c.args.generation c.args.len c.args.offsets.now c.args.slots.now c.args.generations.now c.in_ok-held.ensures.1, c.requires)

pub returns : goal.returns
returns c x w =
    let k = made (goal.at.returns c).Start x in
    progress-is k w.sound c.args.worker c.args.offset c.args.generation c.args.now
    (test-passed (token_rows (view k) c.args.worker rights.extending c.args.offset c.args.generation) _ (attempt_of (view k) c.args.offset)
    (c.in_ok-held.ensures.0 k w rights.extending refl)).0
    (extend_of c.extend_at.result) _
    (c.extend_at.ensures k.table (table-whole w) c.args.offset c.args.generation c.in_ok-held.ensures.1)
