-- `range_at` meets its contract. Assumes nothing.
use Prim.Native.Nat.{◌<◌}
use native.Mathlib.Omega.{arith}
use mathlib.Core.Path.{sym, ◌∙◌}
use Rattle.types.specs.Limits.{RANGES}
use Rattle.words.proofs.Columns.{column-at}
use Rattle.cursor.specs.Layout.{STARTS, ENDS, cursor_in}
use Rattle.cursor.proofs.View.{range-is}
use Rattle.cursor.proofs.Search.{runs-is, long-starts, long-ends}
use Rattle.cursor.proofs.Words.{whole}
use Rattle.cursor.proofs.reads.range_at.Goals as goal
use Rattle.cursor.proofs.reads.range_at.Goals.{Start}

used : (s : Start) → s.args.at < (cursor_in s.args.cursor.now).runs
used s = let g = cursor_in s.args.cursor.now in omega (arith, s.requires.1, runs-is g (whole s.requires.0))

low : (s : Start) → s.args.at < RANGES
low s = omega (arith, used s, s.requires.0.cursor.few)

pub returns : goal.returns
returns c =
    let w = c.args.cursor.now in
    let g = cursor_in w in
    let i = c.args.at in
    sym (range-is g.runs g.starts g.ends (long-starts g (whole c.requires.0)) (long-ends g (whole c.requires.0)) i (used (goal.at.returns c).Start)
    ∙ simp (column-at STARTS RANGES w i (low (goal.at.returns c).Start), column-at ENDS RANGES w i (low (goal.at.returns c).Start)))
