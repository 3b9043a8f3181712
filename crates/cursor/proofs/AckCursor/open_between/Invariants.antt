-- `AckCursor::open_between` meets its contract. The loop's invariant: the first i stretches are written, the places behind the list are as
-- they were. Assumes nothing.
use Rattle.types.proofs.Listing.{Written}
use Rattle.cursor.specs.View.{view}
use Rattle.cursor.specs.Unsettled.{stretches}
use Rattle.cursor.proofs.AckCursor.open_between.Given as goal

abbrev pub invariant-loop-i : goal.invariant-loop-i
invariant-loop-i l = Written (stretches (view l.self) l.a l.b) l.initial.out l.count l.i l.out
