-- `hours_of` meets its contract: the days are the last words. Assumes nothing.
use Rattle.words.proofs.Columns.{column-is}
use Rattle.consumer_words.specs.Layout.{DAYS}
use Rattle.consumer_words.proofs.steps.hours_of.Goals as goal

pub returns : goal.returns
returns c = rw (c.copy_from_slice.ensures.after, column-is DAYS 7 c.args.words.now)
