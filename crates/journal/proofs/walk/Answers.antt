-- `journal::walk` meets its contract. The invariant: the walk from where the loop stands, behind the last group
-- found, answers what the whole walk answers. Assumes nothing.
use native.Mathlib.Omega.{arith}
use mathlib.Core.Path.{◌≡◌, sym, ◌∙◌}
use mathlib.Core.Bool.{false}
use lib.ListN.{length}
use Rattle.std.proofs.lemmas.Result.{err_from_is_err_and}
use Rattle.types.specs.Refusal.{Result}
use Rattle.raw.proofs.Bytes.{bytes-known}
use Rattle.journal.specs.Area.{bad_length}
use Rattle.journal.specs.Walks.{group, group_at, Stop, walk}
use Rattle.journal.specs.Answers.{walk_in}
use Rattle.journal.proofs.Walker.{
  found-nothing,
  found-group,
  walk_ends,
  walk-past,
  walk_breaks,
  walk-goes,
  group-number,
  group_advances,
  walk_refused,
  walk-answered,
}
use Rattle.journal.proofs.walk.Goals as goal
use Rattle.journal.proofs.walk.Goals.{At-loop-at, In-Some}

pub returns-then-bad_length : goal.returns-then-bad_length
returns-then-bad_length c = walk_refused _ _ _ _ (sym c.bad_length.ensures ∙ c.if-bad_length.true)

-- the area has a length that is not refused
good : (c : At-loop-at) → bad_length (length c.args.area.now) ≡ false
good c = sym c.bad_length.ensures ∙ c.if-bad_length.false

-- what the walk from where the loop stands answers is the call's answer
answers : (c : At-loop-at) (w : Result Stop)
    → w ≡ walk c.args.area.now c.min-end.result c.args.first_number c.args.first_block
    → w ≡ walk_in c.args.hi c.args.first_number c.args.first_block c.args.area.now
answers c w = walk-answered _ _ _ _ _ w (good c) c.min-end.ensures

pub returns-in_err-behind : goal.returns-in_err-behind
returns-in_err-behind c =
    let p = err_from_is_err_and c.from_residual.result c.from_residual.ensures.1 in
    rw (p.1, p.2)
    (answers (goal.at.returns-in_err-behind c).At-loop-at _
    (walk_breaks _ _ _ _ _ _ c.loop-at.invariant _ c.in_err-behind.ensures))

-- the group that the turn found
passed : (c : In-Some)
    → group_at c.args.area.now c.min-end.result c.loop-at.number c.loop-at.at ≡ group c.in-Some.behind
passed c = found-group _ _ (rw c.in-Some.is at c.in_ok-behind.ensures)

pub overflow_add-number : goal.overflow_add-number
overflow_add-number c =
    let b = bytes-known c.args.area.now c.type_inv.area in
    omega (arith, group-number _ _ _ _ _ (passed (goal.at.overflow_add-number c).In-Some) b)

pub loop-at-smaller : goal.loop-at-smaller
loop-at-smaller c = omega (arith, group_advances _ _ _ _ _ (passed (goal.at.loop-at-smaller c).In-Some))

pub loop-at-preserved : goal.loop-at-preserved
loop-at-preserved c = walk-goes _ _ _ _ _ _ c.loop-at.invariant _ (passed (goal.at.loop-at-preserved c).In-Some)

pub returns-after-loop-at : goal.returns-after-loop-at
returns-after-loop-at c =
    answers (goal.at.returns-after-loop-at c).At-loop-at _ (walk-past _ _ _ _ _ _ c.loop-at.invariant c.loop-at-test.false)

pub returns-in_default : goal.returns-in_default
returns-in_default c =
    answers (goal.at.returns-in_default c).At-loop-at _
    (walk_ends _ _ _ _ _ _ c.loop-at.invariant (found-nothing _ (rw c.in_default.is at c.in_ok-behind.ensures)))
