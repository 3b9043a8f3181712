-- `crc::after_bytes` meets its contract. The loop's invariant: the table is its rule taken at 0 to 255, and feeding the
-- bytes that are left to the register as it is gives what feeding all of them to the first register gives. The first
-- `refl` of `loop-i-init` is the table's test, which computes all its entries. Assumes nothing.
use Prim.Native.Nat.{◌≤◌}
use mathlib.Core.Path.{◌≡◌}
use lib.ListN.{length, drop}
use Rattle.crc.specs.Crc32c.{bits, feed}
use Rattle.crc.specs.Table.{remainder}
use Rattle.crc.proofs.Table.{tabulate}
use Rattle.crc.proofs.after_bytes.Given as goal

abbrev pub invariant-loop-i : goal.invariant-loop-i
invariant-loop-i l =
    (l.table ≡ tabulate remainder 0 256) × (l.i ≤ length l.bytes)
    × (feed (bits 32 l.register) (drop l.i l.bytes) ≡ feed (bits 32 l.first) (drop l.from l.bytes))
