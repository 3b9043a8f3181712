-- `AckCursor::range_at` meets its contract. Assumes nothing.
use Prim.Native.Nat.{◌<◌}
use mathlib.Core.Path.{sym}
use borrow.Author.Rules.{rules}
use Rattle.cursor.specs.View.{Whole}
use Rattle.cursor.proofs.View.{range-is}
use Rattle.cursor.proofs.Search.{long-starts, long-ends, runs-is}
use Rattle.cursor.proofs.AckCursor.range_at.Goals as goal
use Rattle.cursor.proofs.AckCursor.range_at.Goals.{Start}

whole : (s : Start) → Whole s.args.self
whole s = record { starts = search rules; ends = search rules; sound = s.requires.0 }

pub returns : goal.returns
returns c =
    let a = c.args in
    let w = whole (goal.at.returns c).Start in
    let h : a.at < a.self.runs = rw (runs-is a.self w) at c.requires.1 in
    sym (range-is a.self.runs a.self.starts a.self.ends (long-starts a.self w) (long-ends a.self w) a.at h)
