-- `AckCursor::ahead_len` meets its contract. The loop's invariant: the sum with the offsets of the ranges that are left is
-- the whole. Assumes nothing.
use Prim.Native.Nat.{◌+◌, ◌≤◌}
use mathlib.Core.Path.{◌≡◌}
use lib.ListN.{drop}
use Rattle.cursor.specs.Ranges.{offsets}
use Rattle.cursor.specs.View.{view}
use Rattle.cursor.proofs.AckCursor.ahead_len.Given as goal

abbrev pub invariant-loop-i : goal.invariant-loop-i
invariant-loop-i l = (l.i ≤ l.runs) × (l.sum + offsets (drop l.i (view l.self).ahead) ≡ offsets (view l.self).ahead)
