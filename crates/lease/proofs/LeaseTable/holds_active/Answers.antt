-- `LeaseTable::holds_active` meets its contract.
-- Assumes nothing.
use Rattle.lease.proofs.Whole.{filled}
use Rattle.lease.proofs.Tokens.{not_owned, owned, one}
use Rattle.lease.proofs.LeaseTable.holds_active.Goals as goal

pub returns-in_default : goal.returns-in_default
returns-in_default c = rw (not_owned c.args.self (filled c.well_formed.0) c.requires c.args.token.offset.0 c.args.token.generation.0 c.in_default.ensures)

pub returns : goal.returns
returns c =
    let full = filled c.well_formed.0 in
    rw (c.slot_at-slot.ensures.0, owned c.args.self full c.requires c.args.token.offset.0 c.args.token.generation.0 c.in-Some.ensures, one c.args.self full c.requires c.args.token.offset.0 c.args.token.generation.0 c.in-Some.ensures)
