-- `Consumer::export` meets its contract: the parts of a consumer, lent to `export_in_place`, are that consumer. Assumes nothing.
use borrow.Author.Rules.{rules}
use Rattle.consumer.specs.Parts.{Whole}
use Rattle.consumer.proofs.Arrays.{table-full, cursor-whole}
use Rattle.consumer.proofs.Consumer.export.Goals as goal
use Rattle.consumer.proofs.Consumer.export.Goals.{Start}

whole : (s : Start) → Whole s.args.self
whole s = record { full = table-full s.args.self.table _ s.well_formed.0.1.1.1.0; sound = s.requires }

pub export_in_place-requires : goal.export_in_place-requires
export_in_place-requires c =
    record { consumer = c.args.self; cursor = cursor-whole c.args.self.cursor _ c.well_formed.0.1.1.0 c.requires.cursor; whole = whole (goal.at.export_in_place-requires c).Start }

pub returns : goal.returns
returns c =
    c.export_in_place.ensures c.args.self (whole (goal.at.returns c).Start)
