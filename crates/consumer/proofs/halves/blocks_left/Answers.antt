-- `consumer::halves::blocks_left` meets its contract: the next block is not behind its half's end. Assumes nothing.
use borrow.Author.Rules.{rules}
use Rattle.consumer.proofs.Area.{before-end}
use Rattle.consumer.proofs.halves.blocks_left.Goals as goal

pub overflow_sub-result : goal.overflow_sub-result
overflow_sub-result c = rw c.half_end.ensures (before-end _ _ c.requires)
