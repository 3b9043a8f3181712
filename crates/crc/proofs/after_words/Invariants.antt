-- `crc::after_words` meets its contract. The loop's invariant is that of `after_bytes`, with eight bytes to a turn. The
-- first `refl` of `loop-i-init` is the nibble tables' test, which computes all entries. Assumes nothing.
use Prim.Native.Nat.{◌≤◌, ◌-◌, ◌%◌}
use mathlib.Core.Path.{◌≡◌}
use lib.ListN.{drop}
use Rattle.crc.specs.Crc32c.{bits, feed}
use Rattle.crc.specs.Table.{nibble}
use Rattle.crc.proofs.Table.{tabulate}
use Rattle.crc.proofs.after_words.Given as goal

abbrev pub invariant-loop-i : goal.invariant-loop-i
invariant-loop-i l =
    (l.table ≡ tabulate nibble 0 256) × (l.i ≤ l.end) × (l.i % 8 ≡ 0)
    × (feed (bits 32 l.register) (drop l.i l.bytes) ≡ feed (bits 32 l.first) l.bytes)

abbrev pub decreases-loop-i : goal.decreases-loop-i
decreases-loop-i l = l.end - l.i
