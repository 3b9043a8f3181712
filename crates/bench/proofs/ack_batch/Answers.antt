-- `ack_batch` meets its contract. The loop's invariant: the acks that are left lead from the cursor to the end. Assumes nothing.
use native.Mathlib.Omega.{arith}
use mathlib.Core.Path.{◌≡◌, refl, sym, ◌∙◌}
use Rattle.cursor.specs.View.{view}
use Rattle.bench.proofs.Drivers.{left_by, acks_down}
use Rattle.bench.proofs.ack_batch.Goals as goal

pub loop-left-init : goal.loop-left-init
loop-left-init c = (omega arith, c.requires.0, refl)

pub overflow_add-base : goal.overflow_add-base
overflow_add-base c = omega (arith, c.requires.1)

pub ack-requires : goal.ack-requires
ack-requires c = c.loop-left.invariant.1

pub loop-left-preserved : goal.loop-left-preserved
loop-left-preserved c =
    let u = c.ack.ensures in
    (omega arith, u.sound, rw (left_by u.is) (sym (acks_down (view c.loop-left.cursor) c.args.base c.loop-left.left c.loop-left-test.true)) ∙ c.loop-left.invariant.2)

pub returns : goal.returns
returns c =
    let l = c.loop-left in
    let none : l.left ≡ 0 = omega arith in
    (l.invariant.1, rw none at l.invariant.2)
