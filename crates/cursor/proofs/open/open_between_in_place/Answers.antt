-- `open_between_in_place` meets its contract. The loop's invariant: the numbers of the first i stretches are written, the places behind
-- them are as they were. Assumes nothing.
use Prim.Native.Nat.{◌+◌, ◌*◌, ◌≤◌, ◌<◌}
use native.Mathlib.Omega.{arith}
use mathlib.Core.Path.{◌≡◌, ◌∙◌}
use lib.ListN.{length, length-set}
use Rattle.types.proofs.Loops.{filling}
use Rattle.cursor.specs.View.{ack_cursor, view}
use Rattle.cursor.specs.Unsettled.{stretches}
use Rattle.cursor.proofs.Search.{long-starts, long-ends}
use Rattle.cursor.proofs.Unsettled.{found-few, found_within, found_at, two-more, numbers_reversed, numbers-short, numbers-put}
use Rattle.cursor.proofs.open.open_between_in_place.Goals as goal
use Rattle.cursor.proofs.open.open_between_in_place.Goals.{In-loop-i, Start}

pub returns-then-b-a : goal.returns-then-b-a
returns-then-b-a c =
    numbers_reversed (view (ack_cursor c.args.committed c.args.starts.now c.args.ends.now c.args.runs)) c.args.a c.args.b c.args.out.now c.if-b-a.true

pub returns-then-out-count : goal.returns-then-out-count
returns-then-out-count c =
    numbers-short (view (ack_cursor c.args.committed c.args.starts.now c.args.ends.now c.args.runs)) c.args.a c.args.b c.args.out.now c.if-b-a.false (rw c.find_open-gaps.ensures.1 at c.if-out-count.true)

pub loop-i-init : goal.loop-i-init
loop-i-init c = (omega arith, filling _ _ _ (omega arith))

-- in a turn: how many stretches there are, and that the place is one of the cursor's
few : (c : In-loop-i) → c.find_open-gaps.result.count ≤ 129
few c =
    omega (arith, c.find_open-gaps.ensures.1, found-few (ack_cursor c.args.committed c.args.starts.now c.args.ends.now c.args.runs) c.requires c.args.a c.args.b)

listed : (c : In-loop-i) → c.loop-i.i < length (stretches (view (ack_cursor c.args.committed c.args.starts.now c.args.ends.now c.args.runs)) c.args.a c.args.b)
listed c = omega (arith, c.find_open-gaps.ensures.1)

within : (c : In-loop-i) → c.find_open-gaps.result.first + c.loop-i.i ≤ c.args.runs
within c =
    let f = c.find_open-gaps in
    found_within (ack_cursor c.args.committed c.args.starts.now c.args.ends.now c.args.runs) c.requires c.args.a c.args.b f.result.first c.loop-i.i f.ensures.0 (listed c)

room : (c : In-loop-i) → 2 * c.loop-i.i + 1 < length c.loop-i.out
room c = let l = c.loop-i in omega (arith, l.invariant.1.room, l.invariant.1.full)

pub overflow_add-first : goal.overflow_add-first
overflow_add-first c = omega (arith, within (goal.at.overflow_add-first c).In-loop-i, c.requires.sound.few)

pub stretch_at-stretch-requires : goal.stretch_at-stretch-requires
stretch_at-stretch-requires c =
    let g = ack_cursor c.args.committed c.args.starts.now c.args.ends.now c.args.runs in
    (long-starts g c.requires, omega (arith, within (goal.at.stretch_at-stretch-requires c).In-loop-i, long-ends g c.requires))

pub overflow_mul-out : goal.overflow_mul-out
overflow_mul-out c = omega (arith, few (goal.at.overflow_mul-out c).In-loop-i)

pub offset_bounds-out-i : goal.offset_bounds-out-i
offset_bounds-out-i c = omega (arith, few (goal.at.offset_bounds-out-i c).In-loop-i)

pub bounds-out-i : goal.bounds-out-i
bounds-out-i c = omega (arith, room (goal.at.bounds-out-i c).In-loop-i)

pub overflow_mul-out-in-loop-i : goal.overflow_mul-out-in-loop-i
overflow_mul-out-in-loop-i c = omega (arith, few (goal.at.overflow_mul-out-in-loop-i c).In-loop-i)

pub overflow_add-out : goal.overflow_add-out
overflow_add-out c = omega (arith, few (goal.at.overflow_add-out c).In-loop-i)

pub offset_bounds-out-i-in-loop-i : goal.offset_bounds-out-i-in-loop-i
offset_bounds-out-i-in-loop-i c = omega (arith, few (goal.at.offset_bounds-out-i-in-loop-i c).In-loop-i)

pub bounds-out-i-in-loop-i : goal.bounds-out-i-in-loop-i
bounds-out-i-in-loop-i c = simp length-set (room (goal.at.bounds-out-i-in-loop-i c).In-loop-i)

pub loop-i-preserved : goal.loop-i-preserved
loop-i-preserved c =
    let g = ack_cursor c.args.committed c.args.starts.now c.args.ends.now c.args.runs in
    let l = c.loop-i in
    let f = c.find_open-gaps in
    let all = stretches (view g) c.args.a c.args.b in
    let is = found_at g c.requires c.args.a c.args.b f.result.first l.i f.ensures.0 (listed (goal.at.loop-i-preserved c).In-loop-i) in
    (omega arith, rw f.ensures.1 (two-more all c.args.out.now l.out l.i c.stretch_at-stretch.result (listed (goal.at.loop-i-preserved c).In-loop-i) (c.stretch_at-stretch.ensures ∙ is) (rw f.ensures.1 at l.invariant.1)))

pub overflow_mul-result : goal.overflow_mul-result
overflow_mul-result c =
    omega (arith, c.find_open-gaps.ensures.1, found-few (ack_cursor c.args.committed c.args.starts.now c.args.ends.now c.args.runs) c.requires c.args.a c.args.b)

pub shape_of-out : goal.shape_of-out
shape_of-out c = c.loop-i.invariant.1.full

pub returns : goal.returns
returns c =
    let l = c.loop-i in
    let e : l.i ≡ c.find_open-gaps.result.count = omega (arith, l.invariant.0) in
    numbers-put (view (ack_cursor c.args.committed c.args.starts.now c.args.ends.now c.args.runs)) c.args.a c.args.b c.args.out.now c.if-b-a.false c.find_open-gaps.result.count l.out c.find_open-gaps.ensures.1 c.if-out-count.false (rw e at l.invariant.1)
