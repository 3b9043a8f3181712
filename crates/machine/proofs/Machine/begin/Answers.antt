-- `Machine::begin` meets its contract: on the state alone, and what a begin answers. Assumes nothing.
use mathlib.Core.Path.{◌≡◌}
use mathlib.Core.Bool.{true}
use native.Mathlib.Omega.{arith}
use borrow.Author.Rules.{rules}
use Rattle.machine.specs.Calls.{u64}
use Rattle.machine.proofs.Fits.{number_fits}
use Rattle.machine.proofs.Transitions.{not_begun, sound-idle, begin-refused, begin-done}
use Rattle.machine.proofs.Machine.begin.Goals as goal
use Rattle.machine.proofs.Machine.begin.Goals.{Else-self-ne0, Start, Then-self-ne0}

elsewhere : (c : Then-self-ne0) → c.args.self.phase ≡ 0 → ⊥
elsewhere c e = omega arith

here : (c : Else-self-ne0) → c.args.self.phase ≡ 0
here c = omega arith

-- what the type of the worker's number says
fit : (c : Start) → u64 c.args.worker ≡ true
fit c = number_fits c.args.worker c.well_formed.1.0.1

pub returns-then-self-ne0 : goal.returns-then-self-ne0
returns-then-self-ne0 c =
    λ a out. not_begun c.args.self c.requires a out c.args.worker (fit (goal.at.returns-then-self-ne0 c).Start) (elsewhere c)

pub begin-begun-requires : goal.begin-begun-requires
begin-begun-requires c = sound-idle c.args.self c.requires (here (goal.at.begin-begun-requires c).Else-self-ne0)

pub returns-in_default : goal.returns-in_default
returns-in_default c =
    λ a out. begin-refused c.args.self (here (goal.at.returns-in_default c).Else-self-ne0) a out c.requires c.args.worker (fit (goal.at.returns-in_default c).Start) c.begin-begun.result c.begin-begun.ensures.begun _ c.in_default.is

pub returns : goal.returns
returns c =
    λ a out. begin-done c.args.self (here (goal.at.returns c).Else-self-ne0) a out c.requires c.args.worker (fit (goal.at.returns c).Start) c.begin-begun.result c.begin-begun.ensures.begun _ c.in-Ok.is
