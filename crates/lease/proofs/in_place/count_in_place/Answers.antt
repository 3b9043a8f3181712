-- `count_in_place` meets its contract, on every table that has the parts that it is lent.
-- Assumes nothing.
-- a table with the parts that the arguments are
use Rattle.lease.specs.Parts.{listing}
use Rattle.lease.specs.declared.LeaseTable.{LeaseTable}
use Rattle.lease.proofs.Slots.{free, lease-at}
use Rattle.lease.proofs.in_place.count_in_place.Goals as goal
use Rattle.lease.proofs.in_place.count_in_place.Goals.{In-Found, Start}

abbrev table : Start → LeaseTable → LeaseTable
table s = listing s.args.len s.args.offsets.now s.args.slots.now s.args.deliveries.now

pub returns-in_default : goal.returns-in_default
returns-in_default c t w =
    rw (free (table (goal.at.returns-in_default c).Start t) w.full w.sound c.find-place.ensures c.in_default.is).is

pub returns : goal.returns
returns c t w =
    let s = (goal.at.returns c).Start in
    rw (c.slot_at-slot.ensures.0, lease-at (table (goal.at.returns c).Start t) w.full w.sound s.args.offset c.find-place.ensures c.in-Found.is)
