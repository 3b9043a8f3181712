-- `holds_active` meets its contract. Assumes nothing.
use mathlib.Core.Path.{◌≡◌, ap}
use Rattle.lease.specs.Layout.{table_in}
use Rattle.lease.specs.Stored.{held_at}
use Rattle.lease.specs.declared.Lease.{Lease}
use Rattle.lease.proofs.InWords.{unowned, its_own, its_lease}
use Rattle.lease.proofs.reads.holds_active.Goals as goal

pub returns-in_default : goal.returns-in_default
returns-in_default c = rw (unowned c.requires c.args.token.offset.0 c.args.token.generation.0 c.in_default.ensures)

pub returns : goal.returns
returns c =
    let due : c.lease_at-lease.result.deadline ≡ (held_at c.in-Some.at (table_in c.args.table.now)).deadline = ap (λ (h : Lease). h.deadline) c.lease_at-lease.ensures in
    rw (its_own c.requires c.args.token.offset.0 c.args.token.generation.0 c.in-Some.ensures, its_lease c.requires c.args.token.offset.0 c.args.token.generation.0 c.in-Some.ensures, due)
