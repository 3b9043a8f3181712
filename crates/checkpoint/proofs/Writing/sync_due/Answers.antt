-- `Writing::sync_due` meets its contract: the parts of a record are that record. Assumes nothing.
use Rattle.checkpoint.proofs.Steps.{askable, due-is}
use Rattle.checkpoint.proofs.Writing.sync_due.Goals as goal

pub is_sync_due-requires : goal.is_sync_due-requires
is_sync_due-requires c = askable c.args.self.now c.requires

pub returns : goal.returns
returns c = due-is c.args.self.now c.requires _ c.is_sync_due.ensures
