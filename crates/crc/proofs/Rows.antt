-- The tables of the short check: the sum of a byte's two nibbles. Assumes nothing.
use Prim.Native.Nat.{ℕ, ◌+◌, ◌*◌, ◌/◌, ◌%◌, ◌<◌}
use native.Mathlib.Omega.{arith}
use mathlib.Core.Path.{◌≡◌, refl, ap, ◌∙◌}
use lib.Bits.{bit_xor}
use Rattle.crc.specs.Crc32c.{bits, feed_bits}
use Rattle.crc.specs.Table.{nibble}
use Rattle.crc.proofs.Register.{zeros}
use Rattle.crc.proofs.Table.{by-nibble}

none_yet : (y : ℕ) → bits 32 0 ≡ feed_bits zeros (bits 0 y)
unfolding zeros bits
none_yet y = refl

pub two_nibbles : (x a b : ℕ) → x < 256 → a ≡ nibble (x / 16) → b ≡ nibble (16 + x % 16)
    → bits 32 (bit_xor a b) ≡ feed_bits zeros (bits 8 x)
two_nibbles x a b h ra rb =
    let high : x / 16 ≡ 16 * 0 + x / 16 % 16 = omega arith in
    by-nibble 1 x a b (by-nibble 0 (x / 16) 0 a (none_yet (x / 16 / 16)) (ra ∙ ap nibble high)) rb
