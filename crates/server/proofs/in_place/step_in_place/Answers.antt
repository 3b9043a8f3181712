-- `step_in_place` meets its contract: in phase 1 alone, and what a step answers. Assumes nothing.
use mathlib.Core.Path.{◌≡◌}
use native.Mathlib.Omega.{arith}
use borrow.Author.Rules.{rules}
use Rattle.server.proofs.InPlace.{step-declined, stepped-numbers, writing-sound}
use Rattle.server.proofs.in_place.step_in_place.Goals as goal
use Rattle.server.proofs.in_place.step_in_place.Goals.{Else-phase-ne1, Then-phase-ne1}

elsewhere : (c : Then-phase-ne1) → c.args.phase ≡ 1 → ⊥
elsewhere c e = omega arith

here : (c : Else-phase-ne1) → c.args.phase ≡ 1
here c = omega arith

pub returns-then-phase-ne1 : goal.returns-then-phase-ne1
returns-then-phase-ne1 c s w ok out = step-declined s _ _ ok _ out (elsewhere c)

pub step_in_place-stepped-requires : goal.step_in_place-stepped-requires
step_in_place-stepped-requires c =
    let p = c.requires in
    record { writing = p.writing; sound = writing-sound _ _ (here (goal.at.step_in_place-stepped-requires c).Else-phase-ne1) p.sound }

pub returns-in-Ok : goal.returns-in-Ok
returns-in-Ok c s w ok out =
    let e = here (goal.at.returns-in-Ok c).Else-phase-ne1 in
    stepped-numbers s _ _ ok _ out _ _ e (c.in-Ok.ensures w (writing-sound _ _ e ok)) _ _ c.of_step.ensures c.phase_after.ensures

pub returns-in-Err : goal.returns-in-Err
returns-in-Err c s w ok out =
    let e = here (goal.at.returns-in-Err c).Else-phase-ne1 in
    stepped-numbers s _ _ ok _ out _ _ e (c.in-Err.ensures w (writing-sound _ _ e ok)) _ _ c.of_refusal.ensures e
