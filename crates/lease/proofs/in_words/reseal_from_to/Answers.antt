-- `reseal_from_to` meets its contract. Assumes nothing.
use mathlib.Core.Path.{ap, ◌∙◌}
use Rattle.lease.specs.Rest.{resealed_as}
use Rattle.lease.specs.Layout.{table_in}
use Rattle.lease.specs.Stored.{holding}
use Rattle.lease.specs.declared.Lease.{Lease}
use Rattle.lease.proofs.InWords.{not_resealed, resealed}
use Rattle.lease.proofs.in_words.reseal_from_to.Goals as goal

pub returns-in_default : goal.returns-in_default
returns-in_default c = not_resealed c.requires c.args.offset.0 c.args.from.0 c.args.generation.0 c.in_default.ensures

pub returns : goal.returns
returns c =
    resealed c.requires c.args.offset.0 c.args.from.0 c.args.generation.0 c.in-Some.ensures c.put_lease.new.table (c.table-1.given ∙ c.requires.long)
    (c.put_lease.ensures ∙ ap (λ (h : Lease). holding c.in-Some.at (resealed_as c.args.generation.0 h) (table_in c.args.table.now)) c.lease_at-lease.ensures)
