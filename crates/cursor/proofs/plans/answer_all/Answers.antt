-- `answer_all` meets its contract. The loop's invariant: what is left to do, with what is done, is the whole. Assumes nothing.
use native.Mathlib.Omega.{arith}
use mathlib.Core.Path.{refl, sym}
use lib.ListN.{length-set}
use Rattle.cursor.specs.View.{ack_cursor, view}
use Rattle.cursor.proofs.Search.{runs-is}
use Rattle.cursor.proofs.Plan.{looks-fit, answering-next, answered-looks, answered-bytes}
use Rattle.cursor.proofs.plans.answer_all.Goals as goal

pub loop-i-init : goal.loop-i-init
loop-i-init c = (omega arith, refl, record { within = omega arith; long = sym c.requires.1; looks-is = omega arith; bytes-is = refl })

pub step_to-step-requires : goal.step_to-step-requires
step_to-step-requires c =
    c.requires.0

pub overflow_add-looks : goal.overflow_add-looks
overflow_add-looks c =
    let g = ack_cursor c.args.committed c.args.starts.now c.args.ends.now c.args.runs in
    omega (
      arith,
      looks-fit (view g) c.args.offsets.now c.loop-i.out c.loop-i.at c.loop-i.looks c.loop-i.i c.loop-i.invariant.2 (omega arith) c.step_to-step.result c.step_to-step.ensures,
      runs-is g c.requires.0,
      c.requires.0.sound.few,
      c.requires.1,
    )

pub bounds-out-i : goal.bounds-out-i
bounds-out-i c = omega (arith, c.loop-i.invariant.2.long)

pub loop-i-preserved : goal.loop-i-preserved
loop-i-preserved c = (
  omega arith,
  simp length-set c.loop-i.invariant.1,
  answering-next (view (ack_cursor c.args.committed c.args.starts.now c.args.ends.now c.args.runs)) c.args.offsets.now c.loop-i.out c.loop-i.at c.loop-i.looks c.loop-i.i c.loop-i.invariant.2 (omega arith) c.step_to-step.result c.step_to-step.ensures _ _ refl refl,
)

pub shape_of-out : goal.shape_of-out
shape_of-out c = c.loop-i.invariant.1

pub returns : goal.returns
returns c =
    let g = ack_cursor c.args.committed c.args.starts.now c.args.ends.now c.args.runs in
    let over = c.loop-i-test.false in (
      answered-looks (view g) c.args.offsets.now c.loop-i.out c.loop-i.at c.loop-i.looks c.loop-i.i c.loop-i.invariant.2 over,
      answered-bytes (view g) c.args.offsets.now c.loop-i.out c.loop-i.at c.loop-i.looks c.loop-i.i c.loop-i.invariant.2 over,
    )
