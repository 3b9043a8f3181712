-- `Machine::restart` meets its contract: a refusal keeps the machine, and else it rests on what the journal has. Assumes nothing.
use borrow.Author.Rules.{rules}
use Rattle.machine.proofs.Transitions.{rests-stands, restart-refused, restart-done}
use Rattle.machine.proofs.Machine.restart.Goals as goal

pub returns-in_default : goal.returns-in_default
returns-in_default c =
    λ out. restart-refused c.args.self c.requires c.args.area.now out _ c.restart-started.result c.restart-started.ensures _ c.in_default.is

pub returns : goal.returns
returns c =
    λ out.
    restart-done c.args.self c.requires c.args.area.now out _ c.restart-started.result c.restart-started.ensures _ c.in-Ok.is
    c.resting.result (rests-stands c.resting.ensures)
