-- `crc::short::after_half` meets its contract. The loop's invariant is that of `after_word`, with half as many nibbles. Assumes
-- nothing.
use Prim.Native.Nat.{◌≤◌, ◌-◌, ◌*◌, ◌/◌, ◌^◌}
use mathlib.Core.Path.{◌≡◌}
use Rattle.crc.specs.Crc32c.{bits, feed_bits}
use Rattle.crc.proofs.Register.{zeros}
use Rattle.crc.proofs.short.after_half.Given as goal

abbrev pub invariant-loop-z : goal.invariant-loop-z
invariant-loop-z l = (l.z ≤ 8) × (bits 32 l.sum ≡ feed_bits zeros (bits (4 * l.z) (l.x / 2 ^ (32 - 4 * l.z))))
