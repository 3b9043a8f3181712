-- `first_fall` meets its contract. The loop's invariant: the first pair that falls is the first from i on. Assumes nothing.
use native.Mathlib.Omega.{arith}
use Rattle.cursor.proofs.Plan.{fall_rows_lem, falls-here, falls-later, falls_nowhere}
use Rattle.cursor.proofs.plans.first_fall.Goals as goal

pub loop-i-init : goal.loop-i-init
loop-i-init c = fall_rows_lem c.args.offsets.now

pub returns-then-offset-before : goal.returns-then-offset-before
returns-then-offset-before c =
    falls-here c.args.offsets.now c.loop-i.before c.loop-i.i (omega arith) c.loop-i.invariant c.if-offset-before.true

pub loop-i-preserved : goal.loop-i-preserved
loop-i-preserved c =
    falls-later c.args.offsets.now c.loop-i.before c.loop-i.i (omega arith) c.loop-i.invariant c.if-offset-before.false

pub returns : goal.returns
returns c =
    falls_nowhere c.args.offsets.now c.loop-i.before c.loop-i.i c.loop-i-test.false c.loop-i.invariant
