-- `AckCursor::ahead_runs` meets its contract. Assumes nothing.
use mathlib.Core.Path.{sym}
use borrow.Author.Rules.{rules}
use Rattle.cursor.specs.View.{Whole}
use Rattle.cursor.proofs.Search.{runs-is}
use Rattle.cursor.proofs.AckCursor.ahead_runs.Goals as goal
use Rattle.cursor.proofs.AckCursor.ahead_runs.Goals.{Start}

whole : (s : Start) → Whole s.args.self
whole s = record { starts = search rules; ends = search rules; sound = s.requires }

pub returns : goal.returns
returns c = sym (runs-is c.args.self (whole (goal.at.returns c).Start))
