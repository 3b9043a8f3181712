-- `LeaseTable::extend` meets its contract: the token owns no lease, or the parts of the table, lent to `extend_at`, are that table's.
-- Assumes nothing.
use Rattle.lease.proofs.Whole.{filled, whole}
use Rattle.lease.proofs.Tokens.{not_owned, extend-fenced}
use Rattle.lease.proofs.LeaseTable.extend.Goals as goal

pub returns-in_default : goal.returns-in_default
returns-in_default c =
    let full = filled c.well_formed.0 in
    extend-fenced c.args.self full c.requires c.args.token.offset.0 c.args.token.generation.0 (not_owned c.args.self full c.requires c.args.token.offset.0 c.args.token.generation.0 c.in_default.ensures) c.args.now

pub returns : goal.returns
returns c = c.extend_at-outcome.ensures c.args.self (whole c.well_formed.0 c.requires) c.args.token.offset.0 c.args.token.generation.0 c.in-Some.ensures
