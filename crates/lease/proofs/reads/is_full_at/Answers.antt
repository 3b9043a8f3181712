-- `is_full_at` meets its contract. Assumes nothing.
use Rattle.lease.specs.Layout.{table_in}
use Rattle.lease.proofs.Slots.{free, lease-at, in_flight_lem}
use Rattle.lease.proofs.InWords.{whole}
use Rattle.lease.proofs.reads.is_full_at.Goals as goal

pub returns-in_default : goal.returns-in_default
returns-in_default c o p =
    let t = table_in c.args.table.now in
    rw (lease-at t (whole c.requires).full c.requires.table o p c.in_default.is)

pub returns : goal.returns
returns c o p =
    let t = table_in c.args.table.now in
    let f = (whole c.requires).full in
    rw ((free t f c.requires.table p c.in-Missing.is).is, in_flight_lem t f c.requires.table)
