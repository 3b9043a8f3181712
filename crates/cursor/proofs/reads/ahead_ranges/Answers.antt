-- `ahead_ranges` meets its contract. The loop's invariant: the numbers of the first i ranges are written, the places after them are as
-- they were. Assumes nothing.
use Prim.Native.Nat.{◌+◌, ◌*◌, ◌≤◌, ◌<◌}
use native.Mathlib.Omega.{arith}
use mathlib.Core.Path.{◌≡◌}
use lib.ListN.{length, length-set}
use Rattle.types.proofs.Loops.{filling}
use Rattle.cursor.specs.Layout.{view}
use Rattle.cursor.proofs.Unsettled.{two-more, ranges-short, ranges-put}
use Rattle.cursor.proofs.reads.ahead_ranges.Goals as goal
use Rattle.cursor.proofs.reads.ahead_ranges.Goals.{In-loop-i, Start}

pub ahead_runs-runs-requires : goal.ahead_runs-runs-requires
ahead_runs-runs-requires c = c.requires

pub returns-then-out-runs : goal.returns-then-out-runs
returns-then-out-runs c =
    ranges-short (view c.args.cursor.now).ahead c.args.out.now (omega (arith, c.ahead_runs-runs.ensures, c.if-out-runs.true))

pub loop-i-init : goal.loop-i-init
loop-i-init c = (omega arith, filling _ _ _ (omega arith))

-- in a turn: how many ranges there are, and that there is room
few : (c : In-loop-i) → c.ahead_runs-runs.result ≤ 128
few c = omega (arith, c.ahead_runs-runs.ensures, c.requires.cursor.valid.few)

listed : (c : In-loop-i) → c.loop-i.i < length (view c.args.cursor.now).ahead
listed c = omega (arith, c.ahead_runs-runs.ensures)

room : (c : In-loop-i) → 2 * c.loop-i.i + 1 < length c.loop-i.out
room c = let l = c.loop-i in omega (arith, l.invariant.1.room, l.invariant.1.full)

pub range_at-range-requires : goal.range_at-range-requires
range_at-range-requires c = (c.requires, listed (goal.at.range_at-range-requires c).In-loop-i)

pub overflow_mul-out : goal.overflow_mul-out
overflow_mul-out c = omega (arith, few (goal.at.overflow_mul-out c).In-loop-i)

pub offset_bounds-out-i : goal.offset_bounds-out-i
offset_bounds-out-i c = omega (arith, few (goal.at.offset_bounds-out-i c).In-loop-i)

pub bounds-out-i : goal.bounds-out-i
bounds-out-i c = omega (arith, room (goal.at.bounds-out-i c).In-loop-i)

pub overflow_mul-out-in-loop-i : goal.overflow_mul-out-in-loop-i
overflow_mul-out-in-loop-i c = omega (arith, few (goal.at.overflow_mul-out-in-loop-i c).In-loop-i)

pub overflow_add-out : goal.overflow_add-out
overflow_add-out c = omega (arith, few (goal.at.overflow_add-out c).In-loop-i)

pub offset_bounds-out-i-in-loop-i : goal.offset_bounds-out-i-in-loop-i
offset_bounds-out-i-in-loop-i c = omega (arith, few (goal.at.offset_bounds-out-i-in-loop-i c).In-loop-i)

pub bounds-out-i-in-loop-i : goal.bounds-out-i-in-loop-i
bounds-out-i-in-loop-i c = simp length-set (room (goal.at.bounds-out-i-in-loop-i c).In-loop-i)

pub loop-i-preserved : goal.loop-i-preserved
loop-i-preserved c =
    let l = c.loop-i in
    let n = c.ahead_runs-runs.ensures in
    (omega arith, rw n (two-more (view c.args.cursor.now).ahead c.args.out.now l.out l.i c.range_at-range.result (listed (goal.at.loop-i-preserved c).In-loop-i) c.range_at-range.ensures (rw n at l.invariant.1)))

pub overflow_mul-result : goal.overflow_mul-result
overflow_mul-result c =
    omega (arith, c.ahead_runs-runs.ensures, c.requires.cursor.valid.few)

pub shape_of-out : goal.shape_of-out
shape_of-out c = c.loop-i.invariant.1.full

pub returns : goal.returns
returns c =
    let l = c.loop-i in
    let e : l.i ≡ c.ahead_runs-runs.result = omega (arith, l.invariant.0) in
    ranges-put (view c.args.cursor.now).ahead c.args.out.now c.ahead_runs-runs.result l.out c.ahead_runs-runs.ensures c.if-out-runs.false (rw e at l.invariant.1)
