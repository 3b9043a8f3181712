-- `crc::crc32c_append` meets its contract: the eights and what is left are all. Assumes nothing.
use Prim.Native.Nat.{◌-◌, ◌%◌}
use native.Mathlib.Omega.{arith}
use mathlib.Core.Path.{◌∙◌}
use lib.ListN.{length, drop_of_length-le}
use Rattle.crc.proofs.Loop.{ended-check}
use Rattle.crc.proofs.crc32c_append.Goals as goal
use Rattle.crc.proofs.crc32c_append.Goals.{then-from-n, else-from-n}

pub returns-then-n-lt64 : goal.returns-then-n-lt64
returns-then-n-lt64 c =
    let a = c.args in
    ended-check a.before a.bytes.now c.after_short.result (omega arith) c.after_short.ensures

pub after_words-register-requires : goal.after_words-register-requires
after_words-register-requires c = (omega arith, omega arith)

pub returns : goal.returns
returns c =
    let bytes = c.args.bytes.now in
    ended-check c.args.before bytes c.if-from-n.register (omega arith)
    (elim c.if-from-n.branch [
      | then-from-n w ↦ rw w.register-is (w.after_bytes-register.ensures ∙ c.after_words-register.ensures)
      | else-from-n w ↦
          rw w.register-is (rw (drop_of_length-le bytes {i = length bytes - length bytes % 8} (omega arith)) at c.after_words-register.ensures)
    ])
