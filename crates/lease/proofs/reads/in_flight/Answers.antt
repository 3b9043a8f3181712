-- `in_flight` meets its contract. Assumes nothing.
use mathlib.Core.Path.{sym}
use Rattle.lease.specs.Layout.{table_in}
use Rattle.lease.proofs.Slots.{in_flight_lem}
use Rattle.lease.proofs.InWords.{whole}
use Rattle.lease.proofs.reads.in_flight.Goals as goal

pub returns : goal.returns
returns c =
    sym (in_flight_lem (table_in c.args.table.now) (whole c.requires).full c.requires.table)
