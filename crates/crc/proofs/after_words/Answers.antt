-- `crc::after_words` meets its contract. The loop's invariant is that of `after_bytes`, with eight bytes to a turn. The
-- first `refl` of `loop-i-init` is the nibble tables' test, which computes all entries. Assumes nothing.
use native.Mathlib.Omega.{arith}
use mathlib.Core.Path.{◌≡◌, refl, ◌∙◌}
use mathlib.Core.Bool.{xor}
use Rattle.raw.proofs.Bytes.{bytes-known}
use Rattle.raw.proofs.Word.{word_number}
use Rattle.crc.specs.Crc32c.{bits, unbits, polynomial}
use Rattle.crc.specs.Table.{nibble}
use Rattle.crc.proofs.Table.{tabulated}
use Rattle.crc.proofs.Loop.{number_passed}
use Rattle.crc.proofs.after_words.Goals as goal

pub loop-i-init : goal.loop-i-init
unfolding nibble bits unbits polynomial xor
loop-i-init c = (refl, omega arith, omega arith, refl)

pub after_word-register-requires : goal.after_word-register-requires
after_word-register-requires c = tabulated nibble _ c.loop-i.invariant.0

pub loop-i-preserved : goal.loop-i-preserved
loop-i-preserved c =
    let l = c.loop-i in
    let bytes = c.args.bytes.now in
    let b = bytes-known bytes c.type_inv.bytes in
    let passed = number_passed bytes l.i l.register 8 c.after_word-register.result b (omega arith) in
    (l.invariant.0, omega arith, omega arith, passed (rw (c.word_at.ensures, word_number bytes l.i (omega arith)) at c.after_word-register.ensures) ∙ l.invariant.3)

pub returns : goal.returns
returns c =
    let l = c.loop-i in
    let all : l.i ≡ c.args.end = omega arith in
    rw all at l.invariant.3
