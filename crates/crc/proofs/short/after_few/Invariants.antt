-- `crc::short::after_few` meets its contract. The loop's invariant: feeding the bytes
-- that are left to the register as it is gives what feeding all of them to the first register gives. Assumes nothing.
use Prim.Native.Nat.{◌≤◌}
use mathlib.Core.Path.{◌≡◌}
use lib.ListN.{drop}
use Rattle.crc.specs.Crc32c.{bits, feed}
use Rattle.crc.proofs.short.after_few.Given as goal

abbrev pub invariant-loop-i : goal.invariant-loop-i
invariant-loop-i l =
    (l.i ≤ l.end) × (feed (bits 32 l.register) (drop l.i l.bytes) ≡ feed (bits 32 l.first) l.bytes)
