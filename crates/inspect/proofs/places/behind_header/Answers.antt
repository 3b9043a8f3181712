-- `behind_header` meets its contract. Assumes nothing.
use borrow.Author.Rules.{rules}
use Rattle.inspect.proofs.places.behind_header.Goals as goal

pub returns : goal.returns
returns c = rw (c.bodies_for-bodies.ensures, c.read_header-header.ensures)
