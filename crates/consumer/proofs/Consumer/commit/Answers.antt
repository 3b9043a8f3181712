-- `Consumer::commit` meets its contract: the parts of a consumer, lent to `commit_in_place`, are that consumer. Assumes nothing.
use borrow.Author.Rules.{rules}
use Rattle.consumer.specs.Parts.{Whole}
use Rattle.consumer.proofs.Arrays.{table-full, cursor-whole}
use Rattle.consumer.proofs.Consumer.commit.Goals as goal
use Rattle.consumer.proofs.Consumer.commit.Goals.{Start}

whole : (s : Start) → Whole s.args.self
whole s = record { full = table-full s.args.self.table _ s.well_formed.0.1.1.1.0; sound = s.requires }

pub commit_in_place-committed-requires : goal.commit_in_place-committed-requires
commit_in_place-committed-requires c =
    (cursor-whole c.args.self.cursor _ c.well_formed.0.1.1.0 c.requires.cursor, c.requires.table.len, c.requires.table.carried-len)

pub returns : goal.returns
returns c = c.commit_in_place-committed.ensures c.args.self (whole (goal.at.returns c).Start)
