-- `put_offset` meets its contract. Assumes nothing.
use Rattle.lease.proofs.Stores.{offset-put}
use Rattle.lease.proofs.stored.put_offset.Goals as goal

pub returns : goal.returns
returns c =
    offset-put c.args.table.now c.requires.0 c.insert.new.column c.table-1.given.0 c.insert-2.new.column c.table-2-1.given.0
    c.args.at c.args.offset.0 c.requires.1 c.insert.ensures c.insert-2.ensures
