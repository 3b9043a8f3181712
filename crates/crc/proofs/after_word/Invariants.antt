-- `crc::after_word` meets its contract. The loop's invariant: the sum is what the top z nibbles come to. Assumes nothing.
use Prim.Native.Nat.{◌≤◌, ◌-◌, ◌*◌, ◌/◌, ◌^◌}
use mathlib.Core.Path.{◌≡◌}
use Rattle.crc.specs.Crc32c.{bits, feed_bits}
use Rattle.crc.proofs.Register.{zeros}
use Rattle.crc.proofs.after_word.Given as goal

abbrev pub invariant-loop-z : goal.invariant-loop-z
invariant-loop-z l =
    (l.z ≤ 16) × (bits 32 l.sum ≡ feed_bits zeros (bits (4 * l.z) (l.x / 2 ^ (64 - 4 * l.z))))
