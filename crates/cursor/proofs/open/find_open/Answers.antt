-- `find_open` meets its contract: the number of stretches by the two places. Assumes nothing.
use Prim.Native.Nat.{ℕ, ◌+◌, ◌-◌, ◌≤◌, ◌<◌}
use native.Mathlib.Omega.{arith}
use mathlib.Core.Path.{◌≡◌, sym, ap}
use lib.Dec.{ltb}
use lib.ListN.{length}
use borrow.Author.Tests.{lt-ltb, le-ltb}
use Rattle.cursor.specs.View.{ack_cursor, view}
use Rattle.cursor.specs.Unsettled.{stretches}
use Rattle.cursor.proofs.Search.{starts_rise, place-within}
use Rattle.cursor.proofs.Unsettled.{more, stretches_none, found-count}
use Rattle.cursor.proofs.open.find_open.Goals as goal
use Rattle.cursor.proofs.open.find_open.Goals.{After-end_before-end, After-partition_point-last}

pub partition_point-first-requires : goal.partition_point-first-requires
partition_point-first-requires c = starts_rise (ack_cursor c.args.committed c.args.starts.now c.args.ends.now c.args.runs) c.requires

pub returns-then-b-a : goal.returns-then-b-a
returns-then-b-a c =
    (c.partition_point-first.ensures, sym (ap length (stretches_none (view (ack_cursor c.args.committed c.args.starts.now c.args.ends.now c.args.runs)) c.args.a c.args.b c.if-b-a.true)))

pub partition_point-last-requires : goal.partition_point-last-requires
partition_point-last-requires c =
    starts_rise (ack_cursor c.args.committed c.args.starts.now c.args.ends.now c.args.runs) c.requires

-- the place of b is found
within : (c : After-partition_point-last) → c.partition_point-last.result ≤ c.args.runs
within c = place-within (ack_cursor c.args.committed c.args.starts.now c.args.ends.now c.args.runs) c.requires (c.args.b - 1) c.partition_point-last.result c.partition_point-last.ensures

pub end_before-end-requires : goal.end_before-end-requires
end_before-end-requires c = omega (arith, within (goal.at.end_before-end-requires c).After-partition_point-last, c.requires.sound.few, c.requires.ends)

counted : (c : After-end_before-end) → c.partition_point-first.result + length (stretches (view (ack_cursor c.args.committed c.args.starts.now c.args.ends.now c.args.runs)) c.args.a c.args.b) ≡ c.partition_point-last.result + more (ltb c.end_before-end.result c.args.b)
counted c =
    found-count (ack_cursor c.args.committed c.args.starts.now c.args.ends.now c.args.runs) c.requires c.args.a c.args.b c.partition_point-first.result c.partition_point-last.result c.end_before-end.result c.if-b-a.false c.partition_point-first.ensures c.partition_point-last.ensures c.end_before-end.ensures

-- the stretches by the places, where what ends before b doesn't reach it
abbrev Last : After-end_before-end → ℕ → Type 0
Last c n = c.partition_point-first.result + length (stretches (view (ack_cursor c.args.committed c.args.starts.now c.args.ends.now c.args.runs)) c.args.a c.args.b) ≡ c.partition_point-last.result + n

one-behind : (c : After-end_before-end) → c.end_before-end.result < c.args.b → Last c 1
one-behind c h = rw (lt-ltb _ _ h) at (counted c)

none-behind : (c : After-end_before-end) → c.args.b ≤ c.end_before-end.result → Last c 0
none-behind c h = rw (le-ltb _ _ h) at (counted c)

pub overflow_add-count : goal.overflow_add-count
overflow_add-count c = omega (arith, within (goal.at.overflow_add-count c).After-partition_point-last, c.requires.sound.few)

pub overflow_sub-count : goal.overflow_sub-count
overflow_sub-count c = omega (arith, one-behind (goal.at.overflow_sub-count c).After-end_before-end c.if-end-b.true)

pub returns-then-end-b : goal.returns-then-end-b
returns-then-end-b c = (c.partition_point-first.ensures, omega (arith, one-behind (goal.at.returns-then-end-b c).After-end_before-end c.if-end-b.true))

pub overflow_sub-count-2 : goal.overflow_sub-count-2
overflow_sub-count-2 c = omega (arith, none-behind (goal.at.overflow_sub-count-2 c).After-end_before-end c.if-end-b.false)

pub returns : goal.returns
returns c = (c.partition_point-first.ensures, omega (arith, none-behind (goal.at.returns c).After-end_before-end c.if-end-b.false))
