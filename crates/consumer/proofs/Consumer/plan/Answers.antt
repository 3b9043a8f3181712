-- `Consumer::plan` meets its contract: who may not look is refused, then lists of unequal length, then one that falls. Assumes nothing.
use mathlib.Core.Path.{sym, ap, ◌∙◌}
use borrow.Author.Rules.{rules}
use Rattle.std.specs.Prelude.{Ok, Err}
use Rattle.std.proofs.lemmas.Result.{err_from_is_err_and}
use Rattle.types.specs.Lists.{numbers_of}
use Rattle.types.specs.Refusal as refusal
use Rattle.types.specs.Refused.{option_of}
use Rattle.types.specs.declared.refusals.Refusal.TheVariants.{UnequalLengths, Falling}
use Rattle.cursor.proofs.Plan.{plan_unequal, plan-falling, plan-answered}
use Rattle.consumer.specs.View.{view}
use Rattle.consumer.proofs.Planned.{plan-refused, plan-permitted, numbers-long}
use Rattle.consumer.proofs.Consumer.plan.Goals as goal

pub returns-in_err-permission_of : goal.returns-in_err-permission_of
returns-in_err-permission_of c =
    let p = err_from_is_err_and c.from_residual.result c.from_residual.ensures.1 in
    rw (p.1, p.2) (plan-refused (view c.args.self) c.args.worker (numbers_of c.args.offsets.now) c.args.out.now c.in_err-permission_of.field-0.0 c.in_err-permission_of.ensures)

pub returns-then-offsets-out : goal.returns-then-offsets-out
returns-then-offsets-out c =
    let os = numbers_of c.args.offsets.now in
    plan-permitted (view c.args.self) c.args.worker os c.args.out.now c.in_ok-permission_of.ensures _ (Err UnequalLengths)
    (plan_unequal (view c.args.self).cursor os c.args.out.now (λ e. c.if-offsets-out.true (sym (numbers-long c.args.offsets.now) ∙ e)))

pub returns-in-Some : goal.returns-in-Some
returns-in-Some c =
    let os = numbers_of c.args.offsets.now in
    plan-permitted (view c.args.self) c.args.worker os c.args.out.now c.in_ok-permission_of.ensures _ (Err (Falling c.in-Some.place))
    (plan-falling (view c.args.self).cursor os c.args.out.now (numbers-long c.args.offsets.now ∙ c.if-offsets-out.false) _
    (sym (ap (option_of refusal.Falling) c.in-Some.is) ∙ c.first_fall.ensures))

pub returns : goal.returns
returns c =
    let os = numbers_of c.args.offsets.now in
    plan-permitted (view c.args.self) c.args.worker os c.args.out.now c.in_ok-permission_of.ensures _ (Ok c.answer_all.result)
    (plan-answered (view c.args.self).cursor os c.args.out.now (numbers-long c.args.offsets.now ∙ c.if-offsets-out.false) c.requires.cursor.valid
    (sym (ap (option_of refusal.Falling) c.in_default.is) ∙ c.first_fall.ensures) _ _ c.answer_all.ensures.looks c.answer_all.ensures.bytes)
