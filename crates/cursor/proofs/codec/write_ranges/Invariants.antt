-- `write_ranges` meets its contract. The loop's invariant: the ranges that are left, written from the next place on, give
-- what all of them give at the start. Assumes nothing.
use Prim.Native.Nat.{◌+◌, ◌*◌}
use mathlib.Core.Path.{◌≡◌}
use lib.ListN.{length, take, drop}
use Rattle.types.specs.Zipped.{zipped}
use Rattle.raw.specs.Bytes.{overwrite}
use Rattle.cursor.specs.Ranges.{range}
use Rattle.cursor.specs.Snapshot.{ranges_bytes}
use Rattle.cursor.proofs.codec.write_ranges.Given as goal

abbrev pub invariant-loop-i : goal.invariant-loop-i
invariant-loop-i l =
    (length l.out ≡ length l.initial.out)
    × (overwrite (l.at + 16 * l.i) (ranges_bytes (drop l.i (zipped range (take l.n l.starts) (take l.n l.ends)))) l.out ≡ overwrite l.at (ranges_bytes (zipped range (take l.n l.starts) (take l.n l.ends))) l.initial.out)
