-- `AckCursor::ahead_ranges` meets its contract. The loop's invariant: the first i ranges are written, the places behind the list are as
-- they were. Assumes nothing.
use Rattle.types.proofs.Listing.{Written}
use Rattle.cursor.specs.View.{view}
use Rattle.cursor.proofs.AckCursor.ahead_ranges.Given as goal

abbrev pub invariant-loop-i : goal.invariant-loop-i
invariant-loop-i l = Written (view l.self).ahead l.initial.out l.runs l.i l.out
