-- `cut` meets its contract: a step on the consumer's own area may be cut, in one of three ways. Assumes nothing.
use native.Mathlib.Omega.{arith}
use mathlib.Core.Path.{◌≡◌}
use borrow.Author.Rules.{rules}
use Rattle.power_cut.specs.View.{Stepping}
use Rattle.machine.proofs.Transitions.{sound-writing}
use Rattle.power_cut.proofs.Cuts.{not_stepping, other_length, cut-old, cut_as}
use Rattle.power_cut.proofs.cut.Goals as goal
use Rattle.power_cut.proofs.cut.Goals.{Else-area-machine}

stepping : (c : Else-area-machine) → Stepping c.args.machine c.args.area.now
stepping c =
    let here : c.args.machine.phase ≡ 1 = omega arith in
    record { phase = here; sound = sound-writing c.args.machine c.requires here; area = search rules }

pub returns-then-machine-ne1 : goal.returns-then-machine-ne1
returns-then-machine-ne1 c =
    let elsewhere : c.args.machine.phase ≡ 1 → ⊥ = λ e. omega arith in
    not_stepping c.args.machine c.args.area.now _ c.requires elsewhere

pub returns-then-area-machine : goal.returns-then-area-machine
returns-then-area-machine c =
    let here : c.args.machine.phase ≡ 1 = omega arith in
    other_length c.args.machine c.args.area.now _ c.requires here (search rules)

pub cut_new-requires : goal.cut_new-requires
cut_new-requires c = stepping (goal.at.cut_new-requires c).Else-area-machine

pub cut_torn-requires : goal.cut_torn-requires
cut_torn-requires c = stepping (goal.at.cut_torn-requires c).Else-area-machine

pub returns-in-Old : goal.returns-in-Old
returns-in-Old c =
    cut_as c.args.bytes.now c.in-Old.is
    (cut-old c.args.machine c.args.area.now (stepping (goal.at.returns-in-Old c).Else-area-machine) c.switched_off.result c.switched_off.ensures)

pub returns-in-New : goal.returns-in-New
returns-in-New c = cut_as c.args.bytes.now c.in-New.is c.cut_new.ensures

pub returns-in-Torn : goal.returns-in-Torn
returns-in-Torn c = cut_as c.args.bytes.now c.in-Torn.is c.cut_torn.ensures
