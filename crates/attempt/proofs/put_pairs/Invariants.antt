-- `put_pairs` meets its contract. The loop's invariant: the pairs that are left, written one by one, give what all of them
-- gave at the start. Assumes nothing.
use Prim.Native.Nat.{◌≤◌}
use mathlib.Core.Path.{◌≡◌}
use lib.ListN.{length, drop}
use Rattle.types.specs.Keyed.{entries}
use Rattle.attempt.specs.Snapshot.{apart}
use Rattle.attempt.proofs.Writing.{put_from}
use Rattle.attempt.specs.Versions.{byte_of}
use Rattle.attempt.proofs.put_pairs.Given as goal

abbrev pub invariant-loop-i : goal.invariant-loop-i
invariant-loop-i l =
    (l.i ≤ l.count)
    × (length l.out ≡ length l.initial.out)
    × (put_from (apart (byte_of l.version)) l.count l.at l.i (drop l.i (entries l.offsets l.attempts)) l.out
    ≡ put_from (apart (byte_of l.version)) l.count l.at 0 (entries l.offsets l.attempts) l.initial.out)
