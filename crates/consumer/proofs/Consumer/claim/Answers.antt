-- `Consumer::claim` meets its contract: the parts of a consumer, lent to `claim_in_place`, are that consumer. Assumes nothing.
use borrow.Author.Rules.{rules}
use Rattle.consumer.specs.Parts.{Whole}
use Rattle.consumer.proofs.Arrays.{table-full, cursor-whole}
use Rattle.consumer.proofs.CallsReturns.{table-whole}
use Rattle.consumer.proofs.Consumer.claim.Goals as goal
use Rattle.consumer.proofs.Consumer.claim.Goals.{Start}

whole : (s : Start) → Whole s.args.self
whole s = record { full = table-full s.args.self.table _ s.well_formed.0.1.1.1.0; sound = s.requires }

pub claim_in_place-claimed-requires : goal.claim_in_place-claimed-requires
claim_in_place-claimed-requires c =
    (cursor-whole c.args.self.cursor _ c.well_formed.0.1.1.0 c.requires.cursor, table-whole (whole (goal.at.claim_in_place-claimed-requires c).Start))

pub returns : goal.returns
returns c = c.claim_in_place-claimed.ensures c.args.self (whole (goal.at.returns c).Start)
