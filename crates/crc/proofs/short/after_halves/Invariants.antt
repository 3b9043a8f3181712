-- `crc::short::after_halves` meets its contract. The loop's invariant is that of `after_bytes`, with four bytes to a turn and no
-- table. Assumes nothing.
use Prim.Native.Nat.{◌≤◌, ◌-◌, ◌%◌}
use mathlib.Core.Path.{◌≡◌}
use lib.ListN.{length, drop}
use Rattle.crc.specs.Crc32c.{bits, feed}
use Rattle.crc.proofs.short.after_halves.Given as goal

abbrev pub invariant-loop-i : goal.invariant-loop-i
invariant-loop-i l =
    (l.i ≤ length l.bytes) × ((length l.bytes - l.i) % 4 ≡ 0)
    × (feed (bits 32 l.register) (drop l.i l.bytes) ≡ feed (bits 32 l.first) (drop l.from l.bytes))

abbrev pub decreases-loop-i : goal.decreases-loop-i
decreases-loop-i l = length l.bytes - l.i
