-- `defer_redelivery` meets its contract. Assumes nothing.
use mathlib.Core.Path.{◌≡◌, ap, subst, ◌∙◌}
use Rattle.lease.specs.Operations.{with_deadline}
use Rattle.lease.specs.Layout.{table_in, view}
use Rattle.lease.specs.InWords.{PlacedIn}
use Rattle.lease.specs.Stored.{held_at, holding}
use Rattle.lease.specs.declared.Lease.{Lease}
use Rattle.lease.proofs.Questions.{none_expired, still-running}
use Rattle.lease.proofs.Slots.{free, lease-at}
use Rattle.lease.proofs.InWords.{whole, not_deferred, deferred}
use Rattle.lease.proofs.in_words.defer_redelivery.Goals as goal

pub returns-in_default : goal.returns-in_default
returns-in_default c =
    let w = c.args.table.now in
    not_deferred c.requires c.args.offset.0 c.args.now c.args.delay_nanos
    (none_expired (view w) c.args.offset.0 c.args.now (free (table_in w) (whole c.requires).full c.requires.table c.find-place.ensures c.in_default.is).is)

pub returns-then-now-lease : goal.returns-then-now-lease
returns-then-now-lease c =
    let w = c.args.table.now in
    let due : c.lease_at-lease.result.deadline ≡ (held_at c.in-Found.at (table_in w)).deadline = ap (λ (h : Lease). h.deadline) c.lease_at-lease.ensures in
    not_deferred c.requires c.args.offset.0 c.args.now c.args.delay_nanos
    (still-running (view w) c.args.offset.0 c.args.now _ (lease-at (table_in w) (whole c.requires).full c.requires.table c.args.offset.0 c.find-place.ensures c.in-Found.is) (rw due at c.if-now-lease.true))

pub returns : goal.returns
returns c =
    let w = c.args.table.now in
    let at = c.in-Found.at in
    let d = c.saturating_add.result in
    let due : c.lease_at-lease.result.deadline ≡ (held_at at (table_in w)).deadline = ap (λ (h : Lease). h.deadline) c.lease_at-lease.ensures in
    deferred c.requires c.args.offset.0 c.args.now c.args.delay_nanos (subst (PlacedIn c.args.offset.0 w) c.in-Found.is c.find-place.ensures) (rw due at c.if-now-lease.false)
    d c.saturating_add.ensures c.put_lease.new.table (c.table-1.given ∙ c.requires.long)
    (c.put_lease.ensures ∙ ap (λ (h : Lease). holding at (with_deadline d h) (table_in w)) c.lease_at-lease.ensures)
