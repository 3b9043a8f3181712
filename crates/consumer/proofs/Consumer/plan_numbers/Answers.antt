-- `Consumer::plan_numbers` meets its contract: the parts of a consumer, lent to `plan_in_place`, are that consumer. Assumes nothing.
use borrow.Author.Rules.{rules}
use Rattle.consumer.proofs.Arrays.{cursor-whole}
use Rattle.consumer.proofs.Consumer.plan_numbers.Goals as goal

pub plan_in_place-requires : goal.plan_in_place-requires
plan_in_place-requires c =
    cursor-whole c.args.self.cursor _ c.well_formed.0.1.1.0 c.requires.cursor

pub returns : goal.returns
returns c =
    c.plan_in_place.ensures c.args.self
