-- `is_running_at` meets its contract. Assumes nothing.
use mathlib.Core.Path.{◌≡◌, ap}
use Rattle.lease.specs.Layout.{table_in}
use Rattle.lease.specs.Stored.{held_at}
use Rattle.lease.specs.declared.Lease.{Lease}
use Rattle.lease.proofs.Slots.{free, lease-at}
use Rattle.lease.proofs.InWords.{whole}
use Rattle.lease.proofs.reads.is_running_at.Goals as goal

pub returns-in_default : goal.returns-in_default
returns-in_default c o p =
    rw (free (table_in c.args.table.now) (whole c.requires.0).full c.requires.0.table p c.in_default.is).is

pub returns : goal.returns
returns c o p =
    let t = table_in c.args.table.now in
    let due : c.lease_at-lease.result.deadline ≡ (held_at c.in-Found.at t).deadline = ap (λ (h : Lease). h.deadline) c.lease_at-lease.ensures in
    rw (lease-at t (whole c.requires.0).full c.requires.0.table o p c.in-Found.is, due)
