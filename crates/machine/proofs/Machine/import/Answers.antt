-- `Machine::import` meets its contract: the machine holds what was made. Assumes nothing.
use borrow.Author.Rules.{rules}
use Rattle.machine.proofs.Machine.import.Goals as goal

pub returns : goal.returns
returns c = c.holding.ensures _ _ c.import-made.ensures
