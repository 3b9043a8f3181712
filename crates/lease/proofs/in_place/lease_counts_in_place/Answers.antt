-- `lease_counts_in_place` meets its contract, on every table that has the parts that it is lent. The loop's invariant: the first i places
-- hold the first i offsets and counts.
-- Assumes nothing.
use Prim.Native.Nat.{ℕ, ◌≤◌}
use native.Mathlib.Omega.{arith}
use mathlib.Core.Path.{◌≡◌, sym, ap, ◌∙◌}
use lib.ListN.{get_or}
use Rattle.types.specs.Limits.{LEASES}
use Rattle.types.proofs.Loops.{filling-more}
use Rattle.tables.specs.Slots.{through}
use Rattle.tables.proofs.Slots.{through-length}
use Rattle.lease.specs.Parts.{listing}
use Rattle.lease.proofs.Bounds.{in_use, within}
use Rattle.lease.proofs.Lists.{counts-listed, count_at}
use Rattle.lease.proofs.in_place.lease_counts_in_place.Goals as goal
use Rattle.lease.proofs.in_place.lease_counts_in_place.Goals.{At-loop-i}

few : (c : At-loop-i) → c.args.len ≤ LEASES
few c = c.requires

pub loop-i-preserved : goal.loop-i-preserved
loop-i-preserved c t w =
    let u = listing c.args.len c.args.offsets.now c.args.slots.now c.args.deliveries.now t in
    let inv = c.loop-i.invariant t w in
    let few = w.sound.len in
    let i = c.loop-i.i in
    let count : get_or c.args.deliveries.now c.slot_at-slot.result 0 ≡ get_or (through 0 c.args.slots.now c.args.deliveries.now) i 0 =
    ap (λ (k : ℕ). get_or c.args.deliveries.now k 0) c.slot_at-slot.ensures.0 ∙ sym (count_at u w.full w.sound i (in_use c.loop-i-test.true few)) in (
      filling-more 0 (within w.full.offsets few) c.loop-i-test.true inv.0,
      rw count (filling-more 0 (within (through-length 0 c.args.slots.now c.args.deliveries.now ∙ w.full.slots) few) c.loop-i-test.true inv.1),
    )

pub returns : goal.returns
returns c t w =
    let l = c.loop-i in
    let inv = l.invariant t w in
    let e : l.i ≡ c.args.len = omega (arith, inv.0.inside, c.loop-i-test.false) in
    record {
      few = omega (arith, few (goal.at.returns c).At-loop-i);
      is = counts-listed (listing c.args.len c.args.offsets.now c.args.slots.now c.args.deliveries.now t) w.full l.listed l.attempts (rw e at inv.0.done) (rw e at inv.1.done);
      rest = rw e at inv.0.rest;
      rest-attempts = rw e at inv.1.rest;
    }
