-- `AckCursor::ahead_len` meets its contract. The loop's invariant: the sum with the offsets of the ranges that are left is
-- the whole. Assumes nothing.
use native.Mathlib.Omega.{arith}
use borrow.Author.Rules.{rules}
use Rattle.cursor.specs.View.{Whole}
use Rattle.cursor.proofs.Search.{range_nonempty, sum-next, sum_over, sum_fits}
use Rattle.cursor.proofs.AckCursor.ahead_len.Goals as goal
use Rattle.cursor.proofs.AckCursor.ahead_len.Goals.{Start}

whole : (s : Start) → Whole s.args.self
whole s = record { starts = search rules; ends = search rules; sound = s.requires }

pub overflow_sub-sum : goal.overflow_sub-sum
overflow_sub-sum c =
    omega (arith, range_nonempty c.args.self (whole (goal.at.overflow_sub-sum c).Start) c.loop-i.i (omega arith))

pub overflow_add-sum : goal.overflow_add-sum
overflow_add-sum c =
    omega (arith, sum-next c.args.self (whole (goal.at.overflow_add-sum c).Start) c.loop-i.i (omega arith), sum_fits c.args.self (whole (goal.at.overflow_add-sum c).Start))

pub loop-i-preserved : goal.loop-i-preserved
loop-i-preserved c =
    (omega arith, omega (arith, sum-next c.args.self (whole (goal.at.loop-i-preserved c).Start) c.loop-i.i (omega arith)))

pub returns : goal.returns
returns c =
    omega (arith, sum_over c.args.self (whole (goal.at.returns c).Start) c.loop-i.i (omega arith))
