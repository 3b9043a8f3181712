-- `Consumer::answer_all` meets its contract. The loop's invariant: what is left to do, with what is done, is the whole. Assumes nothing.
use Prim.Native.Nat.{ℕ, ◌<◌}
use native.Mathlib.Omega.{arith}
use mathlib.Core.Path.{refl, sym, subst}
use lib.ListN.{length, get_or}
use Rattle.types.specs.Lists.{numbers_of}
use Rattle.cursor.specs.Plan.{StepIs}
use Rattle.cursor.proofs.Plan.{looks-fit, answering-next}
use Rattle.consumer.specs.View.{view}
use Rattle.consumer.proofs.Planned.{numbers-long, number-at}
use Rattle.consumer.proofs.Consumer.answer_all.Goals as goal
use Rattle.consumer.proofs.Consumer.answer_all.Goals.{After-step_to-step}

inside : (k : After-step_to-step) → k.loop-i.i < length (numbers_of k.args.offsets.now)
inside k = omega (arith, numbers-long k.args.offsets.now, k.loop-i-test.true)

-- the step is that of the offset's number
stepped : (k : After-step_to-step) → StepIs (view k.args.self).cursor k.loop-i.at (get_or (numbers_of k.args.offsets.now) k.loop-i.i 0) k.step_to-step.result
stepped k =
    subst (λ (o : ℕ). StepIs (view k.args.self).cursor k.loop-i.at o k.step_to-step.result) (sym (number-at k.args.offsets.now k.loop-i.i (record { 0 = 0 }))) k.step_to-step.ensures

pub overflow_add-looks : goal.overflow_add-looks
overflow_add-looks c =
    let os = numbers_of c.args.offsets.now in
    let k = (goal.at.overflow_add-looks c).After-step_to-step in
    omega (
      arith,
      looks-fit (view c.args.self).cursor os c.loop-i.out c.loop-i.at c.loop-i.looks c.loop-i.i c.loop-i.invariant (inside k) c.step_to-step.result (stepped k),
      numbers-long c.args.offsets.now,
      c.requires.sound.cursor.valid.few,
    )

pub loop-i-preserved : goal.loop-i-preserved
loop-i-preserved c =
    let k = (goal.at.loop-i-preserved c).After-step_to-step in
    answering-next (view c.args.self).cursor (numbers_of c.args.offsets.now) c.loop-i.out c.loop-i.at c.loop-i.looks c.loop-i.i c.loop-i.invariant (inside k) c.step_to-step.result (stepped k) _ _ refl refl
