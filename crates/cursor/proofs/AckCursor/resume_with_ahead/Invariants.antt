-- `AckCursor::resume_with_ahead` meets its contract. The loop's invariant: the first i places of both columns are filled.
-- Assumes nothing.
use mathlib.Core.Path.{◌≡◌}
use mathlib.Core.List.{map}
use lib.ListN.{length}
use Rattle.types.proofs.Loops.{Filling}
use Rattle.cursor.specs.declared.Range.{Range}
use Rattle.cursor.proofs.AckCursor.resume_with_ahead.Given as goal

abbrev pub invariant-loop-i : goal.invariant-loop-i
invariant-loop-i l =
    Filling (map (λ (r : Range). r.start) l.ahead) l.initial.cursor.starts l.cursor.starts (length l.ahead) l.i
    × Filling (map (λ (r : Range). r.end) l.ahead) l.initial.cursor.ends l.cursor.ends (length l.ahead) l.i
    × (l.cursor.committed ≡ l.fn.committed.0)
