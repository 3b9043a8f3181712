-- `AckCursor::ahead_ranges` meets its contract. Assumes nothing.
use Rattle.std.proofs.Common.{◌≡◌, length, arith}
use mathlib.Core.Path.{sym}
use borrow.Author.Rules.{rules}
use Rattle.types.proofs.Listing.{none_written, one_more}
use Rattle.cursor.specs.Ranges.{range}
use Rattle.cursor.specs.View.{view}
use Rattle.cursor.proofs.Search.{runs-is}
use Rattle.cursor.proofs.Unsettled.{records-short, records-listed}
use Rattle.cursor.proofs.AckCursor.ahead_ranges.Goals as goal
use Rattle.cursor.proofs.AckCursor.ahead_ranges.Goals.{Start}

size : (s : Start) → s.args.self.runs ≡ length (view s.args.self).ahead
size s = sym (runs-is s.args.self (record { starts = search rules; ends = search rules; sound = s.requires }))

pub returns-then-out-runs : goal.returns-then-out-runs
returns-then-out-runs c = records-short (view c.args.self).ahead c.args.out.now (omega (arith, size (goal.at.returns-then-out-runs c).Start))

pub loop-i-init : goal.loop-i-init
loop-i-init c = none_written (view c.args.self).ahead c.args.out.now c.args.self.runs

pub range_at-requires : goal.range_at-requires
range_at-requires c = (c.requires, omega (arith, size (goal.at.range_at-requires c).Start))

pub bounds-out-i : goal.bounds-out-i
bounds-out-i c = omega (arith, c.loop-i.invariant.long)

pub loop-i-preserved : goal.loop-i-preserved
loop-i-preserved c =
    rw c.range_at.ensures
    (one_more (view c.args.self).ahead c.args.out.now (range 0 0) c.args.self.runs c.loop-i.i c.loop-i.out (omega arith) (omega (arith, size (goal.at.loop-i-preserved c).Start), omega arith) c.loop-i.invariant)

pub returns : goal.returns
returns c =
    let e : c.loop-i.i ≡ c.args.self.runs = omega (arith, c.loop-i.invariant.within) in
    records-listed (view c.args.self).ahead c.args.out.now c.args.self.runs c.loop-i.out (size (goal.at.returns c).Start) (omega arith) (rw e at c.loop-i.invariant)
