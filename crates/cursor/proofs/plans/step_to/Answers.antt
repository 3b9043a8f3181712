-- `step_to` meets its contract. The loop's invariant: the offset came from `at` to `to` with so many looks. Assumes nothing.
use native.Mathlib.Omega.{arith}
use mathlib.Core.Path.{refl}
use borrow.Author.Tests.{le-leb, lt-leb}
use Rattle.cursor.specs.View.{ack_cursor}
use Rattle.cursor.proofs.Plan.{Stepping, stepping_next, step-below, step-on, step-over}
use Rattle.cursor.proofs.plans.step_to.Goals as goal
use Rattle.cursor.proofs.plans.step_to.Goals.{At-loop-to, Start}

-- the offset so far
walking : (p : At-loop-to) → Stepping (ack_cursor p.args.committed p.args.starts.now p.args.ends.now p.args.runs) p.requires p.args.at p.args.offset p.loop-to.to p.loop-to.looks
walking p = p.loop-to.invariant p.requires

pub returns-then-offset-committed : goal.returns-then-offset-committed
returns-then-offset-committed c =
    step-below (ack_cursor c.args.committed c.args.starts.now c.args.ends.now c.args.runs) c.requires c.args.at c.args.offset c.if-offset-committed.true _ refl refl refl

pub loop-to-init : goal.loop-to-init
loop-to-init c = λ w. record { within = λ h. h; few = omega arith; compared_is = omega arith; stepped-is = refl }

pub overflow_add-looks : goal.overflow_add-looks
overflow_add-looks c = omega (arith, (walking (goal.at.overflow_add-looks c).At-loop-to).few, c.requires.sound.few)

pub offset_bounds-ends-to : goal.offset_bounds-ends-to
offset_bounds-ends-to c = omega (arith, c.requires.sound.few)

pub bounds-ends-to : goal.bounds-ends-to
bounds-ends-to c = omega (arith, c.requires.sound.few, c.requires.ends)

pub offset_bounds-starts-to : goal.offset_bounds-starts-to
offset_bounds-starts-to c = omega (arith, c.requires.sound.few)

pub bounds-starts-to : goal.bounds-starts-to
bounds-starts-to c = omega (arith, c.requires.sound.few, c.requires.starts)

pub returns-then-starts-to : goal.returns-then-starts-to
returns-then-starts-to c =
    step-on (ack_cursor c.args.committed c.args.starts.now c.args.ends.now c.args.runs) c.requires c.args.at c.args.offset c.loop-to.to c.loop-to.looks (walking (goal.at.returns-then-starts-to c).At-loop-to) c.if-offset-committed.false _ refl (omega arith) c.if-offset-ends.true refl (rw (le-leb _ c.args.offset c.if-starts-to.true))

pub returns-else-starts-to : goal.returns-else-starts-to
returns-else-starts-to c =
    step-on (ack_cursor c.args.committed c.args.starts.now c.args.ends.now c.args.runs) c.requires c.args.at c.args.offset c.loop-to.to c.loop-to.looks (walking (goal.at.returns-else-starts-to c).At-loop-to) c.if-offset-committed.false _ refl (omega arith) c.if-offset-ends.true refl (rw (lt-leb _ c.args.offset c.if-starts-to.false))

pub loop-to-preserved : goal.loop-to-preserved
loop-to-preserved c =
    λ w. stepping_next (ack_cursor c.args.committed c.args.starts.now c.args.ends.now c.args.runs) w c.args.at c.args.offset c.loop-to.to c.loop-to.looks (c.loop-to.invariant w) (omega arith) c.if-offset-ends.false

pub returns : goal.returns
returns c =
    step-over (ack_cursor c.args.committed c.args.starts.now c.args.ends.now c.args.runs) c.requires c.args.at c.args.offset c.loop-to.to c.loop-to.looks (walking (goal.at.returns c).At-loop-to) c.if-offset-committed.false _ refl c.loop-to-test.false refl refl
