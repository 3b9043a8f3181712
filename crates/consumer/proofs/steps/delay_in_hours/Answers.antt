-- `delay_in_hours` meets its contract: the next opening isn't before the clock. Assumes nothing.
use Prim.Native.Nat.{◌-◌, ◌≤◌}
use native.Mathlib.Omega.{arith}
use mathlib.Core.Path.{◌≡◌, ap, ◌∙◌}
use Rattle.types.specs.Limits.{sat64}
use Rattle.hours.specs.Hours.{next_opening}
use Rattle.hours.specs.View.{view}
use Rattle.hours.proofs.Openings.{next-after}
use Rattle.consumer.proofs.steps.delay_in_hours.Goals as goal
use Rattle.consumer.proofs.steps.delay_in_hours.Goals.{After-next_opening}

-- the delay has ended by then
not-before : (c : After-next_opening) → c.args.now ≤ c.next_opening.result
not-before c =
    let moved = next-after (view c.args.hours) c.saturating_add.result (omega (arith, c.saturating_add.ensures)) in
    omega (arith, c.saturating_add.ensures, c.next_opening.ensures)

pub overflow_sub-result : goal.overflow_sub-result
overflow_sub-result c = not-before c

pub returns : goal.returns
returns c =
    let a = c.args in
    let whole : sat64 a.now (c.next_opening.result - a.now) ≡ c.next_opening.result = omega (arith, not-before c) in
    whole ∙ c.next_opening.ensures ∙ ap (next_opening (view a.hours)) c.saturating_add.ensures
