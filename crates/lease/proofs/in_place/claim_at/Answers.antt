-- `claim_at` meets its contract: that of `LeaseTable::claim`, on the table of the numbers and columns that it is lent.
-- Assumes nothing.
-- the table that the arguments are
use mathlib.Core.Path.{subst}
use lib.ListN.{take}
use Rattle.tables.specs.Search.{Placed}
use Rattle.lease.specs.Parts.{gathered}
use Rattle.lease.specs.declared.LeaseTable.{LeaseTable}
use Rattle.lease.proofs.in_place.claim_at.Goals as goal
use Rattle.lease.proofs.in_place.claim_at.Goals.{Start}

abbrev table : Start → LeaseTable
table s =
    gathered s.args.config s.args.len s.args.carried_len s.args.next s.args.redeliveries
    s.args.offsets.now s.args.slots.now s.args.generations.now s.args.attempt_starts.now s.args.deadlines.now s.args.deliveries.now s.args.workers.now s.args.carried_offsets.now s.args.carried_counts.now

pub returns-in-Found : goal.returns-in-Found
returns-in-Found c =
    c.claim_again.ensures (table (goal.at.returns-in-Found c).Start) c.requires.0 (subst (Placed c.args.offset (take c.args.len c.args.offsets.now)) c.in-Found.is c.requires.1)
