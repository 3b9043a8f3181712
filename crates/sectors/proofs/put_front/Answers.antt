-- `put_front` meets its contract: the front of the sector stands in the place of the block. Assumes nothing.
use Prim.Native.Nat.{◌*◌}
use native.Mathlib.Omega.{arith}
use mathlib.Core.Path.{◌≡◌, ◌∙◌}
use lib.ListN.{length, take}
use lib.Seq.{length-take-le}
use Rattle.raw.proofs.Bytes.{wrote}
use Rattle.sectors.proofs.Area.{block-over}
use Rattle.sectors.proofs.put_front.Goals as goal

pub returns : goal.returns
returns c =
    let whole : length (take 512 c.args.sector.now) ≡ 512 = length-take-le 512 c.args.sector.now c.requires.1 in
    wrote (512 * c.args.at) (take 512 c.args.sector.now) c.args.area.now c.write_bytes.ensures (omega (arith, c.requires.0))
    ∙ block-over c.args.area.now (take 512 c.args.sector.now) c.args.at whole
