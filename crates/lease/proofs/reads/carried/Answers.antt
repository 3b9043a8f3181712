-- `carried` meets its contract. Assumes nothing.
use mathlib.Core.Path.{sym}
use Rattle.lease.specs.Layout.{table_in}
use Rattle.lease.proofs.Slots.{carried-length}
use Rattle.lease.proofs.InWords.{whole}
use Rattle.lease.proofs.reads.carried.Goals as goal

pub returns : goal.returns
returns c =
    sym (carried-length (table_in c.args.table.now) (whole c.requires).full c.requires.table)
