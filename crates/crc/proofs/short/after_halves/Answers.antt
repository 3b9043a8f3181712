-- `crc::short::after_halves` meets its contract. The loop's invariant is that of `after_bytes`, with four bytes to a turn and no
-- table. Assumes nothing.
use native.Mathlib.Omega.{arith}
use mathlib.Core.Path.{refl, ◌∙◌}
use lib.ListN.{drop_of_length-le}
use Rattle.raw.proofs.Bytes.{bytes-known}
use Rattle.raw.proofs.Word.{half-number}
use Rattle.crc.proofs.Loop.{number_passed}
use Rattle.crc.proofs.short.after_halves.Goals as goal

pub loop-i-init : goal.loop-i-init
loop-i-init c = (omega arith, omega arith, refl)

pub loop-i-preserved : goal.loop-i-preserved
loop-i-preserved c =
    let l = c.loop-i in
    let bytes = c.args.bytes.now in
    let b = bytes-known bytes c.type_inv.bytes in
    let passed = number_passed bytes l.i l.register 4 c.after_half-register.result b (omega arith) in
    (omega arith, omega arith, passed (rw (c.half_at.ensures, half-number bytes l.i (omega arith)) at c.after_half-register.ensures) ∙ l.invariant.2)

pub returns : goal.returns
returns c =
    let l = c.loop-i in
    rw (drop_of_length-le c.args.bytes.now {i = l.i} (omega arith)) at l.invariant.2
