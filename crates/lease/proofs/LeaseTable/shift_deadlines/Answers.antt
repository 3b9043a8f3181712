-- `LeaseTable::shift_deadlines` meets its contract.
-- Assumes nothing.
use Rattle.lease.proofs.Changes.{shifts}
use Rattle.lease.proofs.Whole.{filled}
use Rattle.lease.proofs.LeaseTable.shift_deadlines.Goals as goal

pub returns : goal.returns
returns c =
    shifts c.args.self (filled c.well_formed.0) c.requires c.args.delta c.shift.new.times c.shift-2.new.times c.shift.ensures c.shift-2.ensures
