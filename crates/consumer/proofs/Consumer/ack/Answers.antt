-- `Consumer::ack` meets its contract: the parts of a consumer, lent to `settle_in_place`, are that consumer. Assumes nothing.
use borrow.Author.Rules.{rules}
use Rattle.consumer.specs.Parts.{Whole}
use Rattle.consumer.proofs.Arrays.{table-full, cursor-whole}
use Rattle.consumer.proofs.Consumer.ack.Goals as goal
use Rattle.consumer.proofs.Consumer.ack.Goals.{Start}

whole : (s : Start) → Whole s.args.self
whole s = record { full = table-full s.args.self.table _ s.well_formed.0.1.1.1.0; sound = s.requires }

pub settle_in_place-settled-requires : goal.settle_in_place-settled-requires
settle_in_place-settled-requires c =
    (cursor-whole c.args.self.cursor _ c.well_formed.0.1.1.0 c.requires.cursor, c.requires.table.len)

pub returns : goal.returns
returns c = c.settle_in_place-settled.ensures c.args.self (whole (goal.at.returns c).Start)
