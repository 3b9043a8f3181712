-- `grant` meets its contract. Assumes nothing.
use mathlib.Core.Path.{refl, ap, ◌∙◌}
use Rattle.lease.specs.Operations.{deadline_from}
use Rattle.lease.specs.declared.LeaseConfig.{LeaseConfig}
use Rattle.lease.proofs.Stores.{grant-stored}
use Rattle.lease.proofs.stored.grant.Goals as goal

pub returns : goal.returns
returns c =
    let now = c.args.now in (
      grant-stored c.args.table.now c.put_lease.new.table (c.table-1.given ∙ c.requires.0) c.args.at c.args.worker now c.args.count
          c.deadline-deadline.result c.from.result (c.deadline-deadline.ensures ∙ ap (λ (k : LeaseConfig). deadline_from k now now) c.config_of-config.ensures)
          c.put_lease.ensures (c.from.ensures ∙ c.after_grant.ensures),
      refl,
    )
