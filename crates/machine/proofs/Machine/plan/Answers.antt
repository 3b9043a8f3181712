-- `Machine::plan` meets its contract: on the state alone, and what the plan on it answers. Assumes nothing.
use mathlib.Core.Path.{◌≡◌}
use native.Mathlib.Omega.{arith}
use borrow.Author.Rules.{rules}
use Rattle.machine.proofs.Transitions.{sound-idle}
use Rattle.machine.proofs.Planned.{not_planned, planned}
use Rattle.machine.proofs.Machine.plan.Goals as goal
use Rattle.machine.proofs.Machine.plan.Goals.{Else-self-ne0, Then-self-ne0}

elsewhere : (c : Then-self-ne0) → c.args.self.phase ≡ 0 → ⊥
elsewhere c e = omega arith

here : (c : Else-self-ne0) → c.args.self.phase ≡ 0
here c = omega arith

pub returns-then-self-ne0 : goal.returns-then-self-ne0
returns-then-self-ne0 c =
    not_planned c.args.self c.args.worker c.args.offsets.now c.args.out.now (elsewhere c)

pub plan_numbers-answer-requires : goal.plan_numbers-answer-requires
plan_numbers-answer-requires c =
    sound-idle c.args.self c.requires (here (goal.at.plan_numbers-answer-requires c).Else-self-ne0)

pub returns : goal.returns
returns c =
    planned c.args.self c.args.worker c.args.offsets.now c.args.out.now (here (goal.at.returns c).Else-self-ne0) c.plan_numbers-answer.result _ c.plan_numbers-answer.ensures
