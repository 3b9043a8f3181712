-- `plan_in_place` meets its contract: in phase 0 alone, and what a plan answers. Assumes nothing.
use mathlib.Core.Path.{◌≡◌, refl}
use native.Mathlib.Omega.{arith}
use borrow.Author.Rules.{rules}
use Rattle.server.proofs.InNumbers.{idle-sound}
use Rattle.server.proofs.Planned.{not_planned, plan-numbers}
use Rattle.server.proofs.in_place.plan_in_place.Goals as goal
use Rattle.server.proofs.in_place.plan_in_place.Goals.{Else-phase-ne0, Then-phase-ne0}

elsewhere : (c : Then-phase-ne0) → c.args.phase ≡ 0 → ⊥
elsewhere c e = omega arith

here : (c : Else-phase-ne0) → c.args.phase ≡ 0
here c = omega arith

pub returns-then-phase-ne0 : goal.returns-then-phase-ne0
returns-then-phase-ne0 c x =
    let g = c.args in
    not_planned g.phase _ g.worker g.offsets.now g.out.now (elsewhere c)

pub plan_in_place-answer-requires : goal.plan_in_place-answer-requires
plan_in_place-answer-requires c =
    let p = c.requires in
    record { starts = p.askable.sized.starts; ends = p.askable.sized.ends; sound = (idle-sound _ _ (here (goal.at.plan_in_place-answer-requires c).Else-phase-ne0) p.askable.sound).cursor }

pub returns : goal.returns
returns c x =
    let g = c.args in
    plan-numbers g.phase _ g.worker g.offsets.now g.out.now _ c.plan_in_place-answer.result _ c.of_plan.result (here (goal.at.returns c).Else-phase-ne0) refl (c.plan_in_place-answer.ensures x) c.of_plan.ensures
