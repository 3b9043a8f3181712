-- `ranges` meets its contract. The loop's invariant: the entries from i on are left to put. Assumes nothing.
use Rattle.shown.specs.Shown.{range_text, marked, ahead_of}
use Rattle.text.proofs.Putting.{Left}
use Rattle.shown.proofs.ranges.Given as goal

abbrev pub invariant-loop-i : goal.invariant-loop-i
invariant-loop-i l = Left (marked range_text) (ahead_of l.cursor) l.initial.out l.i l.out
