-- `crc::after_bytes` meets its contract. The loop's invariant: the table is its rule taken at 0 to 255, and feeding the
-- bytes that are left to the register as it is gives what feeding all of them to the first register gives. The first
-- `refl` of `loop-i-init` is the table's test, which computes all its entries. Assumes nothing.
use native.Mathlib.Omega.{arith}
use mathlib.Core.Path.{refl, ◌∙◌}
use mathlib.Core.Bool.{xor}
use lib.ListN.{drop_of_length-le}
use Rattle.crc.specs.Crc32c.{bits, unbits, polynomial}
use Rattle.crc.specs.Table.{remainder}
use Rattle.crc.proofs.Table.{tabulated}
use Rattle.crc.proofs.Loop.{byte-passed}
use Rattle.crc.proofs.after_bytes.Goals as goal

pub loop-i-init : goal.loop-i-init
unfolding remainder bits unbits polynomial xor
loop-i-init c = (refl, omega arith, refl)

pub after_byte-register-requires : goal.after_byte-register-requires
after_byte-register-requires c = tabulated remainder _ c.loop-i.invariant.0

pub loop-i-preserved : goal.loop-i-preserved
loop-i-preserved c =
    let l = c.loop-i in
    let passed = byte-passed c.args.bytes.now l.i l.register c.after_byte-register.result in
    (l.invariant.0, omega arith, passed (omega arith) c.after_byte-register.ensures ∙ l.invariant.2)

pub returns : goal.returns
returns c =
    let l = c.loop-i in
    rw (drop_of_length-le c.args.bytes.now {i = l.i} (omega arith)) at l.invariant.2
