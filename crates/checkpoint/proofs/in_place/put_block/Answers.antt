-- `put_block` meets its contract: the block lies in the area. Assumes nothing.
use mathlib.Core.Path.{sym}
use lib.Seq.{length-take-le}
use Rattle.checkpoint.proofs.Steps.{block_written}
use Rattle.checkpoint.proofs.in_place.put_block.Goals as goal

pub slice_bounds-write_block-end : goal.slice_bounds-write_block-end
slice_bounds-write_block-end c =
    sym (length-take-le c.args.total c.args.payload.now c.requires.0)

pub returns : goal.returns
returns c =
    block_written c.args.area.now _ _ c.args.at _ c.requires.1 c.write_block.ensures
