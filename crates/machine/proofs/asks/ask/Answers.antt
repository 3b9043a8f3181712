-- `ask` meets its contract: the parts of a consumer, lent to `ask_in_place`, are that consumer. Assumes nothing.
use borrow.Author.Rules.{rules}
use Rattle.consumer.specs.Parts.{Whole}
use Rattle.consumer.proofs.Arrays.{table-full, cursor-whole, backoffs-full}
use Rattle.machine.proofs.asks.ask.Goals as goal
use Rattle.machine.proofs.asks.ask.Goals.{Start}

whole : (s : Start) → Whole s.args.consumer
whole s = record { full = table-full s.args.consumer.table _ s.well_formed.0.1.1.1.0; sound = s.requires }

pub ask_in_place-done-requires : goal.ask_in_place-done-requires
ask_in_place-done-requires c =
    let x = c.args.consumer in
    record {
      cursor = cursor-whole x.cursor _ c.well_formed.0.1.1.0 c.requires.cursor;
      table = record { full = (whole (goal.at.ask_in_place-done-requires c).Start).full; sound = c.requires.table };
      schedule = record { full = backoffs-full x.settings _ c.well_formed.0.1.1.1.1.1.1.1.0; few = c.requires.settings.delivery.few };
      blocks = c.requires.valid.within;
    }

pub returns : goal.returns
returns c =
    c.ask_in_place-done.ensures c.args.consumer (whole (goal.at.returns c).Start)
