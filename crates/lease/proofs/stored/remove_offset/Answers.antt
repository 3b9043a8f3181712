-- `remove_offset` meets its contract. Assumes nothing.
use Rattle.lease.proofs.Stores.{offset-removed}
use Rattle.lease.proofs.stored.remove_offset.Goals as goal

pub returns : goal.returns
returns c =
    offset-removed c.args.table.now c.requires.0 c.remove.new.column c.table-1.given.0 c.remove-2.new.column c.table-2-1.given.0
    c.args.at c.requires.1 c.requires.2 c.remove.ensures c.remove-2.ensures
