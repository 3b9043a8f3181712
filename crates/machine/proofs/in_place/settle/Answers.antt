-- `settle` meets its contract: what Ack and Term answer, on every consumer that has the parts that they are lent. Assumes nothing.
use borrow.Author.Rules.{rules}
use Rattle.machine.proofs.Replies.{lent}
use Rattle.machine.proofs.in_place.settle.Goals as goal

pub returns : goal.returns
returns c x w = c.settle_in_place-done.ensures (lent w) w
