-- `sync_due` meets its contract: the words are a record. Assumes nothing.
use Rattle.checkpoint.proofs.Steps.{askable, due-is}
use Rattle.checkpoint_words.specs.Layout.{writing_in}
use Rattle.checkpoint_words.proofs.in_words.sync_due.Goals as goal

pub is_sync_due-requires : goal.is_sync_due-requires
is_sync_due-requires c = askable (writing_in c.args.words.now c.args.payload.now) c.requires.writing

pub returns : goal.returns
returns c = due-is (writing_in c.args.words.now c.args.payload.now) c.requires.writing _ c.is_sync_due.ensures
