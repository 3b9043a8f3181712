-- `crc::after_word` meets its contract. The loop's invariant: the sum is what the top z nibbles come to. Assumes nothing.
use Prim.Native.Nat.{◌-◌, ◌+◌, ◌*◌, ◌/◌, ◌%◌, ◌^◌}
use native.Mathlib.Omega.{arith}
use native.Mathlib.Nat.{div-one}
use mathlib.Core.Path.{◌≡◌, refl, sym, ◌∙◌}
use lib.Bits.{bit_xor}
use Rattle.crc.specs.Crc32c.{bits}
use Rattle.crc.proofs.Register.{zeros, word-step}
use Rattle.crc.proofs.Table.{nibble-passed}
use Rattle.crc.proofs.after_word.Goals as goal

pub loop-z-init : goal.loop-z-init
unfolding zeros bits
loop-z-init c = (omega arith, refl)

pub loop-z-preserved : goal.loop-z-preserved
loop-z-preserved c =
    let l = c.loop-z in
    let a = c.args in
    let x = bit_xor a.word a.register in (
      omega arith,
      nibble-passed 60 x l.z l.sum _ (omega arith) l.invariant.1
          (c.passed-sum.ensures ∙ c.requires (16 * l.z + x / 2 ^ (60 - 4 * l.z) % 16) (omega arith)),
    )

pub returns : goal.returns
returns c =
    let l = c.loop-z in
    let a = c.args in
    let all : l.z ≡ 16 = omega arith in
    rw (all, div-one) at l.invariant.1 ∙ sym (word-step 32 a.register a.word c.ranges.register.fits)
