-- `Machine::off` meets its contract. Assumes nothing.
use borrow.Author.Rules.{rules}
use Rattle.machine.proofs.Transitions.{made-off}
use Rattle.machine.proofs.Machine.off.Goals as goal

pub returns : goal.returns
returns c =
    made-off c.args.configuration c.start-started.result c.resting.result c.start-started.ensures c.resting.ensures
