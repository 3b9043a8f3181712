-- `lease_in_place` meets its contract: that of `LeaseTable::lease_of`, on every table that has the parts that it is lent.
-- Assumes nothing.
-- a table with the parts that the arguments are
use Rattle.lease.specs.Parts.{leasing}
use Rattle.lease.specs.declared.LeaseTable.{LeaseTable}
use Rattle.lease.proofs.Slots.{free, lease-at}
use Rattle.lease.proofs.in_place.lease_in_place.Goals as goal
use Rattle.lease.proofs.in_place.lease_in_place.Goals.{In-Found, Start}

abbrev table : Start → LeaseTable → LeaseTable
table s = leasing s.args.len s.args.offsets.now s.args.slots.now s.args.generations.now s.args.attempt_starts.now s.args.deadlines.now s.args.deliveries.now s.args.workers.now

pub returns-in_default : goal.returns-in_default
returns-in_default c t w =
    rw (free (table (goal.at.returns-in_default c).Start t) w.full w.sound c.find-place.ensures c.in_default.is).is

pub returns : goal.returns
returns c t w =
    let s = (goal.at.returns c).Start in
    rw (c.lease_at.ensures, lease-at (table (goal.at.returns c).Start t) w.full w.sound s.args.offset c.find-place.ensures c.in-Found.is)
