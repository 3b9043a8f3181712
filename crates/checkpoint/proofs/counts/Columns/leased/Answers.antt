-- `leased` meets its contract: the count at the slot of a place is the one that is read through the slots there. Assumes nothing.
use Rattle.checkpoint.proofs.Columns.{count-at}
use Rattle.checkpoint.proofs.counts.Columns.leased.Goals as goal

pub returns : goal.returns
returns g c = rw (c.at-2.ensures, c.at.ensures, count-at c.requires.0 c.args.i c.requires.1)
