-- `with` meets its contract. Assumes nothing.
use Rattle.text.proofs.Putting.{says_then}
use Rattle.shown.proofs.with.Goals as goal

pub returns : goal.returns
returns c = says_then c.put.ensures c.put_number.ensures
