-- `crc::short::after_few` meets its contract. The loop's invariant: feeding the bytes
-- that are left to the register as it is gives what feeding all of them to the first register gives. Assumes nothing.
use native.Mathlib.Omega.{arith}
use mathlib.Core.Path.{◌≡◌, refl, ◌∙◌}
use Rattle.crc.proofs.Loop.{byte-passed}
use Rattle.crc.proofs.short.after_few.Goals as goal

pub loop-i-init : goal.loop-i-init
loop-i-init c = (omega arith, refl)

pub loop-i-preserved : goal.loop-i-preserved
loop-i-preserved c =
    let l = c.loop-i in
    let passed = byte-passed c.args.bytes.now l.i l.register c.after_one-register.result in
    (omega arith, passed (omega arith) c.after_one-register.ensures ∙ l.invariant.1)

pub returns : goal.returns
returns c =
    let l = c.loop-i in
    let all : l.i ≡ c.args.end = omega arith in
    rw all at l.invariant.1
