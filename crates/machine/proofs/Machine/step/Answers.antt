-- `Machine::step` meets its contract: on the record alone, and what a step answers. Assumes nothing.
use mathlib.Core.Path.{◌≡◌}
use native.Mathlib.Omega.{arith}
use borrow.Author.Rules.{rules}
use Rattle.machine.proofs.Transitions.{not_stepped, sound-writing, step-called}
use Rattle.machine.proofs.Machine.step.Goals as goal
use Rattle.machine.proofs.Machine.step.Goals.{Else-self-ne1, Then-self-ne1}

elsewhere : (c : Then-self-ne1) → c.args.self.phase ≡ 1 → ⊥
elsewhere c e = omega arith

here : (c : Else-self-ne1) → c.args.self.phase ≡ 1
here c = omega arith

pub returns-then-self-ne1 : goal.returns-then-self-ne1
returns-then-self-ne1 c =
    λ out. not_stepped c.args.self c.requires c.args.area.now out (elsewhere c)

pub step-stepped-requires : goal.step-stepped-requires
step-stepped-requires c =
    sound-writing c.args.self c.requires (here (goal.at.step-stepped-requires c).Else-self-ne1)

pub returns : goal.returns
returns c =
    λ out. step-called c.args.self (here (goal.at.returns c).Else-self-ne1) c.args.area.now c.step-stepped.new.area c.step-stepped.result c.step-stepped.ensures out _ c.phase_after.ensures
