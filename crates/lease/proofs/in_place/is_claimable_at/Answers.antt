-- `is_claimable_at` meets its contract: that of `LeaseTable::is_claimable`, on every table that has the parts that it is lent and the
-- offset at the place, or where it belongs.
-- Assumes nothing.
-- a table with the parts that the arguments are
use Rattle.lease.specs.State.{view}
use Rattle.lease.specs.Parts.{due}
use Rattle.lease.specs.declared.LeaseTable.{LeaseTable}
use Rattle.lease.proofs.Slots.{free, lease-at}
use Rattle.lease.proofs.Questions.{claimable}
use Rattle.lease.proofs.in_place.is_claimable_at.Goals as goal
use Rattle.lease.proofs.in_place.is_claimable_at.Goals.{Start}

abbrev table : Start → LeaseTable → LeaseTable
table s = due s.args.slots.now s.args.deadlines.now

pub returns-in_default : goal.returns-in_default
returns-in_default c o t w p =
    rw (free (table (goal.at.returns-in_default c).Start t) w.full w.sound p c.in_default.is).is

pub returns : goal.returns
returns c o t w p =
    rw c.slot_at-slot.ensures.0 (claimable (view (table (goal.at.returns c).Start t)) o c.args.now _ (lease-at (table (goal.at.returns c).Start t) w.full w.sound o p c.in-Found.is))
