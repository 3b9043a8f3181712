-- `ack_parts` meets its contract. Assumes nothing.
use borrow.Author.Rules.{rules}
use Rattle.exports.proofs.InPlace.{told_so}
use Rattle.exports.proofs.in_place.ack_parts.Goals as goal

pub returns : goal.returns
returns c = told_so c.ack_number.ensures c.ack_in_place-noted.ensures
