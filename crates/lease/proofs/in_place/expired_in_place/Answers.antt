-- `expired_in_place` meets its contract, on every table that has the parts that it is lent. The loop's invariant: the offsets of expired
-- leases before i are listed.
-- Assumes nothing.
use Prim.Native.Nat.{◌≤◌}
use native.Mathlib.Omega.{arith}
use Rattle.types.specs.Limits.{LEASES}
use Rattle.lease.proofs.Lists.{listing-expired, listing-running, expired-listed}
use Rattle.lease.proofs.in_place.expired_in_place.Goals as goal
use Rattle.lease.proofs.in_place.expired_in_place.Goals.{At-loop-i, then-deadlines-slot, else-deadlines-slot}

few : (c : At-loop-i) → c.args.len ≤ LEASES
few c = c.requires

pub loop-i-preserved : goal.loop-i-preserved
loop-i-preserved c =
    let l = c.loop-i in
    let a = c.args in
    elim c.if-deadlines-slot.branch [
      | then-deadlines-slot w ↦
          rw (w.listed-is, w.n-is) (listing-expired a.len a.now a.offsets.now a.slots.now a.deadlines.now l.invariant c.loop-i-test.true c.requires (rw c.slot_at-slot.ensures.0 at w.if-deadlines-slot.true))
      | else-deadlines-slot w ↦
          rw (w.listed-is, w.n-is) (listing-running a.len a.now a.offsets.now a.slots.now a.deadlines.now l.invariant c.loop-i-test.true (rw c.slot_at-slot.ensures.0 at w.if-deadlines-slot.false))
    ]

pub returns : goal.returns
returns c t w =
    let l = c.loop-i in
    record {
      few = omega (arith, few (goal.at.returns c).At-loop-i, l.invariant.inside, l.invariant.few);
      is = expired-listed c.args.len c.args.now c.args.offsets.now c.args.slots.now c.args.deadlines.now l.invariant c.loop-i-test.false t w;
      rest = l.invariant.rest;
    }
