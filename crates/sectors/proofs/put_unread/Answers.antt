-- `put_unread` meets its contract: the place of the block is filled. Assumes nothing.
use Prim.Native.Nat.{◌*◌}
use mathlib.Core.Path.{refl, ◌∙◌}
use Rattle.raw.proofs.Bytes.{wrote}
use Rattle.sectors.specs.File.{unread}
use Rattle.sectors.proofs.Area.{block-over}
use Rattle.sectors.proofs.put_unread.Goals as goal

pub returns : goal.returns
returns c =
    wrote (512 * c.args.at) unread c.args.area.now c.write_bytes.ensures c.requires
    ∙ block-over c.args.area.now unread c.args.at refl
