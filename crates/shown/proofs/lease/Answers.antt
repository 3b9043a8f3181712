-- `lease` meets its contract. Assumes nothing.
use Rattle.text.proofs.Putting.{says_then}
use Rattle.shown.proofs.lease.Goals as goal

pub returns : goal.returns
returns c =
    says_then c.say.ensures (rw c.from.ensures at c.with.ensures)
