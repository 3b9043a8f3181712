-- `LeaseTable::reseal_from_to` meets its contract.
-- Assumes nothing.
use Rattle.lease.proofs.Whole.{filled}
use Rattle.lease.proofs.Tokens.{not_owned}
use Rattle.lease.proofs.Questions.{not_resealed, resealed}
use Rattle.lease.proofs.LeaseTable.reseal_from_to.Goals as goal

pub returns-in_default : goal.returns-in_default
returns-in_default c =
    let full = filled c.well_formed.0 in
    not_resealed c.args.self full c.requires c.args.offset.0 c.args.from.0 c.args.generation.0 (not_owned c.args.self full c.requires c.args.offset.0 c.args.from.0 c.in_default.ensures)

pub returns : goal.returns
returns c =
    rw c.slot_at-slot.ensures.0 (resealed c.args.self (filled c.well_formed.0) c.requires c.args.offset.0 c.args.from.0 c.args.generation.0 c.in-Some.ensures)
