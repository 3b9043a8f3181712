-- `crc::after_byte` meets its contract: the entry that it looks up follows the table's rule. Assumes nothing.
use Prim.Native.Nat.{◌%◌}
use native.Mathlib.Omega.{arith}
use lib.Bits.{bit_xor}
use Rattle.crc.proofs.Table.{by-entry}
use Rattle.crc.proofs.after_byte.Goals as goal

pub returns : goal.returns
returns c =
    let a = c.args in
    by-entry a.register a.byte _ c.ranges.register.fits
    (c.requires (bit_xor a.register a.byte % 256) (omega arith))
