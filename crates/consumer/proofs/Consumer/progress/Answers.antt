-- `Consumer::progress` meets its contract: the parts of a consumer, lent to `progress_in_place`, are that consumer. Assumes nothing.
use borrow.Author.Rules.{rules}
use Rattle.consumer.specs.Parts.{Whole}
use Rattle.consumer.proofs.Arrays.{table-full}
use Rattle.consumer.proofs.Consumer.progress.Goals as goal
use Rattle.consumer.proofs.Consumer.progress.Goals.{Start}

whole : (s : Start) → Whole s.args.self
whole s = record { full = table-full s.args.self.table _ s.well_formed.0.1.1.1.0; sound = s.requires }

pub returns : goal.returns
returns c = c.progress_in_place-answer.ensures c.args.self (whole (goal.at.returns c).Start)
