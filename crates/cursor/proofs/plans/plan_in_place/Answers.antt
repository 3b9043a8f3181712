-- `plan_in_place` meets its contract: the lengths, then the first fall, then the walk. Assumes nothing.
use mathlib.Core.Path.{sym, ap, ◌∙◌}
use Rattle.cursor.specs.View.{ack_cursor, view}
use Rattle.types.specs.Refusal.{Falling}
use Rattle.types.specs.Refused.{option_of}
use Rattle.cursor.proofs.Plan.{plan_unequal, plan-falling, plan-answered}
use Rattle.cursor.proofs.plans.plan_in_place.Goals as goal
use Rattle.cursor.proofs.plans.plan_in_place.Goals.{Start}

pub returns-then-offsets-out : goal.returns-then-offsets-out
returns-then-offsets-out c =
    plan_unequal (view (ack_cursor c.args.committed c.args.starts.now c.args.ends.now c.args.runs)) c.args.offsets.now c.args.out.now c.if-offsets-out.true

pub returns-in-Some : goal.returns-in-Some
returns-in-Some c =
    plan-falling (view (ack_cursor c.args.committed c.args.starts.now c.args.ends.now c.args.runs)) c.args.offsets.now c.args.out.now c.if-offsets-out.false _ (sym (ap (option_of Falling) c.in-Some.is) ∙ c.first_fall.ensures)

pub returns : goal.returns
returns c =
    plan-answered (view (ack_cursor c.args.committed c.args.starts.now c.args.ends.now c.args.runs)) c.args.offsets.now c.args.out.now c.if-offsets-out.false c.requires.sound.valid (sym (ap (option_of Falling) c.in_default.is) ∙ c.first_fall.ensures) _ _ c.answer_all.ensures.0 c.answer_all.ensures.1
