-- `LeaseTable::carried` meets its contract.
-- Assumes nothing.
use mathlib.Core.Path.{sym}
use Rattle.lease.proofs.Slots.{carried-length}
use Rattle.lease.proofs.Whole.{filled}
use Rattle.lease.proofs.LeaseTable.carried.Goals as goal

pub returns : goal.returns
returns c = sym (carried-length c.args.self (filled c.well_formed.0) c.requires)
