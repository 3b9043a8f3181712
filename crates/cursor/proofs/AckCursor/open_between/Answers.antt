-- `AckCursor::open_between` meets its contract. Assumes nothing.
use Rattle.std.proofs.Common.{◌≡◌, ◌+◌, ◌<◌, ◌≤◌, length, arith}
use mathlib.Core.Path.{◌∙◌}
use borrow.Author.Rules.{rules}
use Rattle.types.proofs.Listing.{none_written, one_more}
use Rattle.cursor.specs.Ranges.{range}
use Rattle.cursor.specs.View.{view, Whole}
use Rattle.cursor.specs.Unsettled.{stretches}
use Rattle.cursor.proofs.Search.{long-starts, long-ends}
use Rattle.cursor.proofs.Unsettled.{found_within, found_at, records-short, records-listed, records_reversed, records_put}
use Rattle.cursor.proofs.AckCursor.open_between.Goals as goal
use Rattle.cursor.proofs.AckCursor.open_between.Goals.{Start, In-loop-i}

whole : (s : Start) → Whole s.args.self
whole s = record { starts = search rules; ends = search rules; sound = s.requires }

pub find_open-gaps-requires : goal.find_open-gaps-requires
find_open-gaps-requires c = whole (goal.at.find_open-gaps-requires c).Start

pub returns-then-b-a : goal.returns-then-b-a
returns-then-b-a c = records_reversed (view c.args.self) c.args.a c.args.b c.args.out.now c.if-b-a.true

pub returns-then-out-count : goal.returns-then-out-count
returns-then-out-count c =
    let a = c.args in
    records_put (view a.self) a.a a.b a.out.now c.if-b-a.false a.out.now _
    (records-short (stretches (view a.self) a.a a.b) a.out.now (omega (arith, c.find_open-gaps.ensures.1)))

pub loop-i-init : goal.loop-i-init
loop-i-init c = none_written _ _ _

-- in a turn: the place is one of the list, and one of the cursor
listed : (c : In-loop-i) → c.loop-i.i < length (stretches (view c.args.self) c.args.a c.args.b)
listed c = omega (arith, c.find_open-gaps.ensures.1)

whole-here : (c : In-loop-i) → Whole c.args.self
whole-here c = record { starts = search rules; ends = search rules; sound = c.requires }

within : (c : In-loop-i) → c.find_open-gaps.result.first + c.loop-i.i ≤ c.args.self.runs
within c =
    let f = c.find_open-gaps in
    found_within c.args.self (whole-here c) c.args.a c.args.b f.result.first c.loop-i.i f.ensures.0 (listed c)

pub overflow_add-first : goal.overflow_add-first
overflow_add-first c = omega (arith, within (goal.at.overflow_add-first c).In-loop-i, c.requires.few)

pub stretch_at-requires : goal.stretch_at-requires
stretch_at-requires c =
    let p = (goal.at.stretch_at-requires c).In-loop-i in
    let w = whole-here p in
    (long-starts c.args.self w, omega (arith, within p, long-ends c.args.self w))

pub bounds-out-i : goal.bounds-out-i
bounds-out-i c = omega (arith, c.loop-i.invariant.long)

pub loop-i-preserved : goal.loop-i-preserved
loop-i-preserved c =
    let p = (goal.at.loop-i-preserved c).In-loop-i in
    let a = c.args in
    let f = c.find_open-gaps in
    let is = found_at a.self (whole-here p) a.a a.b f.result.first c.loop-i.i f.ensures.0 (listed p) in
    rw (c.stretch_at.ensures ∙ is)
    (one_more (stretches (view a.self) a.a a.b) a.out.now (range 0 0) f.result.count c.loop-i.i c.loop-i.out (omega arith) (omega (arith, f.ensures.1), omega arith) c.loop-i.invariant)

pub returns : goal.returns
returns c =
    let a = c.args in
    let f = c.find_open-gaps in
    let e : c.loop-i.i ≡ f.result.count = omega (arith, c.loop-i.invariant.within) in
    records_put (view a.self) a.a a.b a.out.now c.if-b-a.false c.loop-i.out _
    (records-listed (stretches (view a.self) a.a a.b) a.out.now f.result.count c.loop-i.out f.ensures.1 (omega arith) (rw e at c.loop-i.invariant))
