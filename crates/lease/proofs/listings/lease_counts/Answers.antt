-- `lease_counts` meets its contract. The loop's invariant: the first i places hold the first i offsets and
-- counts. Assumes nothing.
use Prim.Native.Nat.{ℕ, ◌+◌, ◌<◌}
use native.Mathlib.Omega.{arith}
use mathlib.Core.Path.{◌≡◌, sym, ap, subst, ◌∙◌}
use mathlib.Core.List.{List}
use lib.ListN.{get_or, set, replicate}
use Rattle.types.specs.Limits.{LEASES}
use Rattle.types.proofs.Loops.{Filling, filling-more}
use Rattle.words.specs.Columns.{word}
use Rattle.words.proofs.Columns.{column-at}
use Rattle.tables.specs.Slots.{through}
use Rattle.tables.proofs.Slots.{through-length}
use Rattle.lease.specs.Layout.{LEN, OFFSETS, table_in}
use Rattle.lease.specs.declared.Lease.{Lease}
use Rattle.lease.proofs.Bounds.{within}
use Rattle.lease.proofs.Lists.{counts-listed, count_at}
use Rattle.lease.proofs.InWords.{whole}
use Rattle.lease.proofs.listings.lease_counts.Goals as goal

abbrev zeros : List ℕ
zeros = replicate 192 0

pub loop-i-preserved : goal.loop-i-preserved
loop-i-preserved c =
    let w = c.args.table.now in
    let x = table_in w in
    let i = c.loop-i.i in
    let n = word LEN w in
    let few = c.requires.table.len in
    let full = (whole c.requires).full in
    let low : i < LEASES = omega (arith, c.loop-i-test.true, few) in
    let counts = through 0 x.slots x.deliveries in
    let count : get_or counts i 0 ≡ c.lease_at-lease.result.deliveries = count_at x full c.requires.table i low ∙ sym (ap (λ (h : Lease). h.deliveries) c.lease_at-lease.ensures) in (
      subst (λ (v : ℕ). Filling x.offsets zeros (set c.loop-i.offsets i v) n (i + 1)) (column-at OFFSETS LEASES w i low) (filling-more 0 (within full.offsets few) c.loop-i-test.true c.loop-i.invariant.0),
      subst (λ (v : ℕ). Filling counts zeros (set c.loop-i.attempts i v) n (i + 1)) count (filling-more 0 (within (through-length 0 x.slots x.deliveries ∙ full.slots) few) c.loop-i-test.true c.loop-i.invariant.1),
    )

pub returns : goal.returns
returns c =
    let w = c.args.table.now in
    let x = table_in w in
    let inv = c.loop-i.invariant in
    let e : c.loop-i.i ≡ word LEN w = omega (arith, inv.0.inside, c.loop-i-test.false) in
    record {
      few = omega (arith, c.requires.table.len);
      is = counts-listed x (whole c.requires).full c.loop-i.offsets c.loop-i.attempts (rw e at inv.0.done) (rw e at inv.1.done);
      rest = rw e at inv.0.rest;
      rest-attempts = rw e at inv.1.rest;
    }
