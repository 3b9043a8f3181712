-- `carried_in_place` meets its contract: that of `LeaseTable::carried_count`, on every table that has the parts that it is lent.
-- Assumes nothing.
-- a table with the parts that the arguments are
use Rattle.lease.specs.Parts.{carrying}
use Rattle.lease.specs.declared.LeaseTable.{LeaseTable}
use Rattle.lease.proofs.Slots.{carried, uncarried}
use Rattle.lease.proofs.in_place.carried_in_place.Goals as goal
use Rattle.lease.proofs.in_place.carried_in_place.Goals.{In-Found, Start}

abbrev table : Start → LeaseTable → LeaseTable
table s = carrying s.args.carried_len s.args.carried_offsets.now s.args.carried_counts.now

pub returns-in_default : goal.returns-in_default
returns-in_default c t w =
    rw (uncarried (table (goal.at.returns-in_default c).Start t) w.full w.sound c.find-place.ensures c.in_default.is).is

pub returns : goal.returns
returns c t w =
    let s = (goal.at.returns c).Start in
    rw (carried (table (goal.at.returns c).Start t) w.full w.sound c.find-place.ensures c.in-Found.is).is
