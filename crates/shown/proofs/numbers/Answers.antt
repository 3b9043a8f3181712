-- `numbers` meets its contract. Assumes nothing.
use Rattle.text.proofs.Putting.{says_then}
use Rattle.shown.proofs.numbers.Goals as goal

pub returns : goal.returns
returns c =
    says_then (rw c.from.ensures at c.say.ensures)
    (rw c.half_in_use-half.ensures at c.say-2.ensures)
