-- `find` meets its contract. Assumes nothing.
use Rattle.words.specs.Columns.{column}
use Rattle.lease.proofs.reads.find.Goals as goal

pub returns : goal.returns
unfolding column
returns c = c.find.ensures
