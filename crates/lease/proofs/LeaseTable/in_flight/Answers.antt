-- `LeaseTable::in_flight` meets its contract.
-- Assumes nothing.
use mathlib.Core.Path.{sym}
use Rattle.lease.proofs.Slots.{in_flight_lem}
use Rattle.lease.proofs.Whole.{filled}
use Rattle.lease.proofs.LeaseTable.in_flight.Goals as goal

pub returns : goal.returns
returns c = sym (in_flight_lem c.args.self (filled c.well_formed.0) c.requires)
