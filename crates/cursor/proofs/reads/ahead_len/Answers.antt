-- `ahead_len` meets its contract. The loop's invariant: the sum with the offsets of the ranges that are left is
-- the whole. Assumes nothing.
use Prim.Native.Nat.{◌+◌, ◌-◌, ◌<◌}
use native.Mathlib.Omega.{arith}
use mathlib.Core.Path.{◌≡◌}
use lib.ListN.{length, drop}
use Rattle.cursor.specs.Ranges.{offsets}
use Rattle.cursor.specs.Layout.{cursor_in, view}
use Rattle.cursor.proofs.Search.{runs-is, sum_over, sum_fits}
use Rattle.cursor.proofs.Words.{whole, range-holds, sum-there}
use Rattle.cursor.proofs.reads.ahead_len.Goals as goal
use Rattle.cursor.proofs.reads.ahead_len.Goals.{After-range_at-range, Start}

pub ahead_runs-runs-requires : goal.ahead_runs-runs-requires
ahead_runs-runs-requires c = c.requires

pub loop-i-init : goal.loop-i-init
loop-i-init c = (omega arith, omega arith)

pub range_at-range-requires : goal.range_at-range-requires
range_at-range-requires c =
    (c.requires, omega (arith, c.ahead_runs-runs.ensures))

-- in a turn: the place is one of the list, and the range there
listed : (c : After-range_at-range) → c.loop-i.i < length (view c.args.cursor.now).ahead
listed c = omega (arith, c.ahead_runs-runs.ensures)

next : (c : After-range_at-range) → let l = (view c.args.cursor.now).ahead in let i = c.loop-i.i in let r = c.range_at-range.result in
    offsets (drop i l) ≡ (r.end - r.start) + offsets (drop (i + 1) l)
next c = sum-there c.requires c.loop-i.i (listed c) c.range_at-range.result c.range_at-range.ensures

pub overflow_sub-sum : goal.overflow_sub-sum
overflow_sub-sum c = omega (arith, range-holds c.requires c.loop-i.i (listed (goal.at.overflow_sub-sum c).After-range_at-range) c.range_at-range.result c.range_at-range.ensures)

pub overflow_add-sum : goal.overflow_add-sum
overflow_add-sum c = omega (arith, next (goal.at.overflow_add-sum c).After-range_at-range, c.loop-i.invariant.1, sum_fits (cursor_in c.args.cursor.now) (whole c.requires))

pub loop-i-preserved : goal.loop-i-preserved
loop-i-preserved c = (omega arith, omega (arith, next (goal.at.loop-i-preserved c).After-range_at-range, c.loop-i.invariant.1))

pub returns : goal.returns
returns c =
    let g = cursor_in c.args.cursor.now in
    omega (arith, c.loop-i.invariant.1, sum_over g (whole c.requires) c.loop-i.i (omega (arith, c.ahead_runs-runs.ensures, runs-is g (whole c.requires))))
