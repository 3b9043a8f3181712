-- `crc::short::after_half` meets its contract. The loop's invariant is that of `after_word`, with half as many nibbles. Assumes
-- nothing.
use native.Mathlib.Omega.{arith}
use native.Mathlib.Nat.{div-one}
use mathlib.Core.Path.{◌≡◌, refl, sym, ◌∙◌}
use lib.Bits.{bit_xor}
use Rattle.crc.specs.Crc32c.{bits}
use Rattle.crc.proofs.Register.{zeros, word-step}
use Rattle.crc.proofs.Table.{nibble-passed}
use Rattle.crc.proofs.short.after_half.Goals as goal

pub loop-z-init : goal.loop-z-init
unfolding zeros bits
loop-z-init c = (omega arith, refl)

pub loop-z-preserved : goal.loop-z-preserved
loop-z-preserved c =
    let l = c.loop-z in
    let a = c.args in
    (omega arith, nibble-passed 28 (bit_xor a.half a.register) l.z l.sum _ (omega arith) l.invariant.1 c.passed-sum.ensures)

pub returns : goal.returns
returns c =
    let l = c.loop-z in
    let a = c.args in
    let all : l.z ≡ 8 = omega arith in
    rw (all, div-one) at l.invariant.1 ∙ sym (word-step 0 a.register a.half c.ranges.register.fits)
