-- `write_pairs` meets its contract. The loop's invariant: the first i places of the columns are the first i pairs.
-- Assumes nothing.
use Prim.Native.Nat.{◌≤◌}
use mathlib.Core.Path.{◌≡◌}
use lib.ListN.{length, take}
use Rattle.types.specs.Keyed.{entries}
use Rattle.types.specs.Lists.{entries_of}
use Rattle.attempt.proofs.write_pairs.Given as goal

abbrev pub invariant-loop-i : goal.invariant-loop-i
invariant-loop-i l =
    (l.i ≤ length l.pairs)
    × (length l.offsets ≡ 128)
    × (length l.attempts ≡ 128)
    × (entries (take l.i l.offsets) (take l.i l.attempts) ≡ entries_of (take l.i l.pairs))
