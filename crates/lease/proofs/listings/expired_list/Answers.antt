-- `expired_list` meets its contract. The loop's invariant: the offsets of expired leases before i are listed.
-- Assumes nothing.
use Prim.Native.Nat.{ℕ, ◌+◌, ◌<◌}
use native.Mathlib.Omega.{arith}
use mathlib.Core.Path.{◌≡◌, ap, subst}
use lib.ListN.{set}
use Rattle.types.specs.Limits.{LEASES}
use Rattle.words.specs.Columns.{word}
use Rattle.words.proofs.Columns.{column-at}
use Rattle.lease.specs.Layout.{LEN, OFFSETS, table_in}
use Rattle.lease.specs.Stored.{held_at}
use Rattle.lease.specs.declared.Lease.{Lease}
use Rattle.lease.proofs.Lists.{Listing, listing-expired, listing-running, expired-listed}
use Rattle.lease.proofs.InWords.{whole}
use Rattle.lease.proofs.listings.expired_list.Goals as goal
use Rattle.lease.proofs.listings.expired_list.Goals.{then-lease-now, else-lease-now}

pub loop-i-preserved : goal.loop-i-preserved
loop-i-preserved c =
    let w = c.args.table.now in
    let now = c.args.now in
    let x = table_in w in
    let i = c.loop-i.i in
    let n = c.loop-i.n in
    let inv = c.loop-i.invariant in
    let few = c.requires.table.len in
    let low : i < LEASES = omega (arith, c.loop-i-test.true, few) in
    let due : c.lease_at-lease.result.deadline ≡ (held_at i x).deadline = ap (λ (h : Lease). h.deadline) c.lease_at-lease.ensures in
    elim c.if-lease-now.branch [
      | then-lease-now b ↦
          rw (b.listed-is, b.n-is)
          (subst (λ (v : ℕ). Listing (word LEN w) now x.offsets x.slots x.deadlines (set c.loop-i.listed n v) (n + 1) (i + 1)) (column-at OFFSETS LEASES w i low)
          (listing-expired (word LEN w) now x.offsets x.slots x.deadlines inv c.loop-i-test.true few (rw due at b.if-lease-now.true)))
      | else-lease-now b ↦
          rw (b.listed-is, b.n-is) (listing-running (word LEN w) now x.offsets x.slots x.deadlines inv c.loop-i-test.true (rw due at b.if-lease-now.false))
    ]

pub returns : goal.returns
returns c =
    let w = c.args.table.now in
    let x = table_in w in
    let inv = c.loop-i.invariant in
    record {
      few = omega (arith, c.requires.table.len, inv.inside, inv.few);
      is = expired-listed (word LEN w) c.args.now x.offsets x.slots x.deadlines inv c.loop-i-test.false x (whole c.requires);
      rest = inv.rest;
    }
