-- `Machine::start` meets its contract: the machine holds what was made. Assumes nothing.
use borrow.Author.Rules.{rules}
use Rattle.machine.proofs.Machine.start.Goals as goal

pub returns : goal.returns
returns c = c.holding.ensures _ _ c.start-made.ensures
