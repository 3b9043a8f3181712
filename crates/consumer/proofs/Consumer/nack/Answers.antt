-- `Consumer::nack` meets its contract: the parts of a consumer, lent to `nack_in_place`, are that consumer. Assumes nothing.
use borrow.Author.Rules.{rules}
use Rattle.consumer.specs.Parts.{Whole}
use Rattle.consumer.proofs.Arrays.{table-full, backoffs-full}
use Rattle.consumer.proofs.Consumer.nack.Goals as goal
use Rattle.consumer.proofs.Consumer.nack.Goals.{Start}

whole : (s : Start) → Whole s.args.self
whole s = record { full = table-full s.args.self.table _ s.well_formed.0.1.1.1.0; sound = s.requires }

pub nack_in_place-nacked-requires : goal.nack_in_place-nacked-requires
nack_in_place-nacked-requires c =
    (record { full = backoffs-full c.args.self.settings _ c.well_formed.0.1.1.1.1.1.1.1.0; few = c.requires.settings.delivery.few }, c.requires.table.len)

pub returns : goal.returns
returns c = c.nack_in_place-nacked.ensures c.args.self (whole (goal.at.returns c).Start)
