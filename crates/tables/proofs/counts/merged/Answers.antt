-- `merged` meets its contract. The loop's invariant: what is filled, and what is left of the two lists merged, make the whole.
-- Assumes nothing.
use Prim.Native.Nat.{◌≤◌, ◌<◌}
use native.Mathlib.Omega.{arith}
use mathlib.Core.Path.{◌≡◌}
use lib.ListN.{take, drop}
use Rattle.types.specs.Keyed.{entries}
use Rattle.types.specs.Lists.{counts_in}
use Rattle.tables.proofs.Merge.{next, next-is, merging, merging-end, merging-few, merging-more, merges}
use Rattle.tables.proofs.counts.merged.Goals as goal
use Rattle.tables.proofs.counts.merged.Goals.{After-next_of-next}

is-next : (c : After-next_of-next) → c.next_of-next.result ≡ next (drop c.loop-k.i (counts_in c.args.counts)) (drop c.loop-k.j (entries (take c.args.len c.args.others.now) (take c.args.len c.args.other_counts.now)))
is-next c = next-is c.next_of-next.ensures c.pair_at-left.ensures c.pair_at-right.ensures

few : (c : After-next_of-next) → (c.next_of-next.result.left ≤ 1) × (c.next_of-next.result.right ≤ 1)
few c = merging-few c.loop-k.invariant c.next_of-next.result (is-next c)

-- a place is left
room : (c : After-next_of-next) → c.loop-k.k < 192
room c = omega (arith, c.loop-k-test.true, c.loop-k.invariant.room)

pub loop-k-init : goal.loop-k-init
loop-k-init c = merging _ _

pub overflow_add-next : goal.overflow_add-next
overflow_add-next c = let f = few (goal.at.overflow_add-next c).After-next_of-next in omega (arith, f.0, f.1)

pub loop-k-smaller-then-next-eq0 : goal.loop-k-smaller-then-next-eq0
loop-k-smaller-then-next-eq0 c = omega (arith, c.loop-k-test.true)

pub loop-k-preserved-then-next-eq0 : goal.loop-k-preserved-then-next-eq0
loop-k-preserved-then-next-eq0 c = merging-end c.loop-k.invariant c.next_of-next.result (is-next (goal.at.loop-k-preserved-then-next-eq0 c).After-next_of-next) c.if-next-eq0.true

pub offset_bounds-offsets-k : goal.offset_bounds-offsets-k
offset_bounds-offsets-k c = omega (arith, room (goal.at.offset_bounds-offsets-k c).After-next_of-next)

pub bounds-offsets-k : goal.bounds-offsets-k
bounds-offsets-k c = room (goal.at.bounds-offsets-k c).After-next_of-next

pub offset_bounds-attempts-k : goal.offset_bounds-attempts-k
offset_bounds-attempts-k c = omega (arith, room (goal.at.offset_bounds-attempts-k c).After-next_of-next)

pub bounds-attempts-k : goal.bounds-attempts-k
bounds-attempts-k c = room (goal.at.bounds-attempts-k c).After-next_of-next

pub overflow_add-i : goal.overflow_add-i
overflow_add-i c = omega (arith, (few (goal.at.overflow_add-i c).After-next_of-next).0, room (goal.at.overflow_add-i c).After-next_of-next, c.loop-k.invariant.left)

pub overflow_add-j : goal.overflow_add-j
overflow_add-j c = omega (arith, (few (goal.at.overflow_add-j c).After-next_of-next).1, room (goal.at.overflow_add-j c).After-next_of-next, c.loop-k.invariant.right)

pub overflow_add-k : goal.overflow_add-k
overflow_add-k c = omega (arith, room (goal.at.overflow_add-k c).After-next_of-next)

pub loop-k-smaller : goal.loop-k-smaller
loop-k-smaller c = omega (arith, c.loop-k-test.true)

pub loop-k-preserved : goal.loop-k-preserved
loop-k-preserved c =
    merging-more c.loop-k.invariant c.next_of-next.result (is-next (goal.at.loop-k-preserved c).After-next_of-next) c.loop-k-test.true c.if-next-eq0.false

pub returns : goal.returns
returns c = merges c.loop-k.invariant c.loop-k-test.false
