-- `crc::short::after_one` meets its contract: two nibbles are what the byte comes to. Assumes nothing.
use Prim.Native.Nat.{◌%◌}
use native.Mathlib.Omega.{arith}
use lib.Bits.{bit_xor}
use Rattle.crc.proofs.Table.{by_fed}
use Rattle.crc.proofs.Rows.{two_nibbles}
use Rattle.crc.proofs.short.after_one.Goals as goal

pub returns : goal.returns
returns c =
    let a = c.args in
    by_fed a.register a.byte _ c.ranges.register.fits
    (two_nibbles (bit_xor a.register a.byte % 256) _ _ (omega arith) c.in_byte-upper.ensures.0 c.in_byte-lower.ensures.1)
