-- `put_lease` meets its contract. Assumes nothing.
use Rattle.lease.proofs.Stores.{stored-lease}
use Rattle.lease.proofs.stored.put_lease.Goals as goal

pub returns : goal.returns
returns c =
    stored-lease c.args.table.now c.args.at c.slot_at-slot.result c.slot_at-slot.ensures.0 c.slot_at-slot.ensures.1 c.args.lease
    c.from.result c.from-2.result c.from.ensures c.from-2.ensures
