-- `lease_of` meets its contract. Assumes nothing.
use mathlib.Core.Path.{sym, ap, ◌∙◌}
use mathlib.Core.Option.{some}
use Rattle.lease.specs.Layout.{table_in}
use Rattle.lease.proofs.Slots.{free, lease-at}
use Rattle.lease.proofs.InWords.{whole}
use Rattle.lease.proofs.reads.lease_of.Goals as goal

pub returns-in_default : goal.returns-in_default
returns-in_default c =
    sym (free (table_in c.args.table.now) (whole c.requires).full c.requires.table c.find-place.ensures c.in_default.is).is

pub returns : goal.returns
returns c =
    ap some c.lease_at.ensures
    ∙ sym (lease-at (table_in c.args.table.now) (whole c.requires).full c.requires.table c.args.offset.0 c.find-place.ensures c.in-Found.is)
