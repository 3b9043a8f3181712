-- `first_fall` meets its contract. The loop's invariant: the first pair that falls is the first from i on. Assumes nothing.
use native.Mathlib.Omega.{arith}
use Rattle.types.specs.Lists.{numbers_of}
use Rattle.cursor.proofs.Plan.{falls-here, falls-later}
use Rattle.consumer.proofs.Planned.{numbers-long, number-at}
use Rattle.consumer.proofs.plans.first_fall.Goals as goal

pub returns-then-offset-before : goal.returns-then-offset-before
returns-then-offset-before c =
    falls-here (numbers_of c.args.offsets.now) c.loop-i.before c.loop-i.i (omega (arith, numbers-long c.args.offsets.now, c.loop-i-test.true)) c.loop-i.invariant
    (omega (arith, number-at c.args.offsets.now c.loop-i.i (record { 0 = 0 }), c.if-offset-before.true))

pub loop-i-preserved : goal.loop-i-preserved
loop-i-preserved c =
    let is = number-at c.args.offsets.now c.loop-i.i (record { 0 = 0 }) in
    let later =
    falls-later (numbers_of c.args.offsets.now) c.loop-i.before c.loop-i.i (omega (arith, numbers-long c.args.offsets.now, c.loop-i-test.true)) c.loop-i.invariant
    (omega (arith, is, c.if-offset-before.false)) in
    rw is at later
