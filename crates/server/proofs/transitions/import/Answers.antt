-- `import` meets its contract: what the machine's own made, in numbers. Assumes nothing.
use borrow.Author.Rules.{rules}
use Rattle.server.proofs.transitions.import.Goals as goal

pub returns : goal.returns
returns c = c.made.ensures _ _ _ c.import.ensures
