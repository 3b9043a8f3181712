-- `crc::is_sealed` meets its contract: each way out is a law of the definition. Assumes nothing.
use Prim.Native.Nat.{◌-◌}
use native.Mathlib.Omega.{arith}
use mathlib.Core.Path.{sym, ap₂, ◌∙◌}
use lib.Dec.{eqb}
use lib.ListN.{length}
use lib.Seq.{length-take-le}
use Rattle.crc.proofs.Seal.{unsealed_short, sealed-test}
use Rattle.crc.proofs.is_sealed.Goals as goal

pub returns-then-bytes-lt4 : goal.returns-then-bytes-lt4
returns-then-bytes-lt4 c = sym (unsealed_short c.args.bytes.now c.if-bytes-lt4.true)

pub slice_bounds-crc32c-end : goal.slice_bounds-crc32c-end
slice_bounds-crc32c-end c =
    let b = c.args.bytes.now in
    sym (length-take-le (length b - 4) b (omega arith))

pub returns : goal.returns
returns c =
    ap₂ eqb c.read_u32.ensures c.crc32c.ensures
    ∙ sealed-test c.args.bytes.now (omega arith)
