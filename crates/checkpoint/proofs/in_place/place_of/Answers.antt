-- `place_of` meets its contract: the group fits behind the last one, or goes to the other half. Assumes nothing.
use Rattle.checkpoint.proofs.Placing.{place-moves, place-stays}
use Rattle.checkpoint.proofs.in_place.place_of.Goals as goal

pub returns-then-half_end-block : goal.returns-then-half_end-block
returns-then-half_end-block c =
    place-moves _ _ _ _ c.half_end.ensures c.if-half_end-block.true _ _ c.other_half.ensures c.half_blocks.ensures

pub returns : goal.returns
returns c = place-stays _ _ _ _ c.half_end.ensures c.if-half_end-block.false
