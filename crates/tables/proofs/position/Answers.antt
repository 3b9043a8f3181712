-- `position` meets its contract.
-- Assumes nothing.
use Prim.Native.Nat.{◌+◌, ◌-◌, ◌/◌}
use native.Mathlib.Omega.{arith}
use Rattle.tables.proofs.Search.{halving, halving_up, halving_down, halved}
use Rattle.tables.proofs.position.Goals as goal

pub loop-low-init : goal.loop-low-init
loop-low-init c = let s = c.before.before in halving s.args.x s.args.len s.args.keys.now c.min-high.ensures

pub offset_bounds-keys-mid : goal.offset_bounds-keys-mid
offset_bounds-keys-mid c = omega (arith, c.loop-low.invariant.there)

pub bounds-keys-mid : goal.bounds-keys-mid
bounds-keys-mid c = omega (arith, c.loop-low.invariant.there)

pub overflow_add-low : goal.overflow_add-low
overflow_add-low c = omega (arith, c.loop-low.invariant.used)

pub loop-low-preserved-then-keys-mid : goal.loop-low-preserved-then-keys-mid
loop-low-preserved-then-keys-mid c =
    let l = c.loop-low in
    let s = c.before.before.before.before.before.before in
    halving_up s.args.x s.args.len s.args.keys.now l.invariant (l.low + (l.high - l.low) / 2) (omega arith) c.if-keys-mid.true

pub loop-low-preserved : goal.loop-low-preserved
loop-low-preserved c =
    let l = c.loop-low in
    let s = c.before.before.before.before.before.before in
    halving_down s.args.x s.args.len s.args.keys.now l.invariant (l.low + (l.high - l.low) / 2) (omega arith) (omega arith) c.if-keys-mid.false

pub returns : goal.returns
returns c =
    let s = c.before.before.before.before in
    halved s.args.x s.args.len s.args.keys.now c.loop-low.invariant c.loop-low-test.false
