-- `release_leases` meets its contract. Assumes nothing.
use Rattle.types.specs.Limits.{LEASES}
use Rattle.words.proofs.Columns.{column-is}
use Rattle.lease.specs.Layout.{OFFSETS}
use Rattle.lease.proofs.Stores.{leases-released}
use Rattle.lease.proofs.stored.release_leases.Goals as goal

pub returns : goal.returns
returns c =
    let w = c.args.table.now in
    record {
      to = c.position-to.result;
      at = rw (column-is OFFSETS LEASES w) at c.position-to.ensures;
      is = leases-released w c.requires.0 c.remove.new.column c.table-1.given.0 c.set_aside.new.slots c.table-2-1.given.0
          c.position-to.result c.remove.ensures c.set_aside.ensures;
    }
