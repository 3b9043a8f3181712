-- `nack_at` meets its contract: that of `LeaseTable::nack`, on every table that has the parts that it is lent, and with every token
-- that owns the lease at the place.
-- Assumes nothing.
-- a table with the parts that the arguments are
use Rattle.lease.specs.Parts.{requeuing}
use Rattle.lease.specs.declared.LeaseTable.{LeaseTable}
use Rattle.lease.proofs.Tokens.{none_left, requeued_to}
use Rattle.lease.proofs.in_place.nack_at.Goals as goal
use Rattle.lease.proofs.in_place.nack_at.Goals.{Start}

abbrev table : Start → LeaseTable → LeaseTable
table s = requeuing s.args.next_generation s.args.slots.now s.args.generations.now s.args.deadlines.now

pub returns-then-next_generation-eq-MAX : goal.returns-then-next_generation-eq-MAX
returns-then-next_generation-eq-MAX c t w o g p =
    none_left (table (goal.at.returns-then-next_generation-eq-MAX c).Start t) w.full w.sound o g p c.if-next_generation-eq-MAX.true c.args.now c.args.delay_nanos

pub returns : goal.returns
returns c t w o g p =
    rw c.slot_at-slot.ensures.0 (requeued_to (table (goal.at.returns c).Start t) w.full w.sound o g p c.if-next_generation-eq-MAX.false c.args.now c.args.delay_nanos c.saturating_add-deadline.result c.saturating_add-deadline.ensures)
