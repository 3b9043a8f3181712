-- `next_line` keeps what is read within the list. Assumes nothing.
use Rattle.modules.proofs.next_line.Goals as goal

pub slice_bounds-take-count : goal.slice_bounds-take-count
slice_bounds-take-count c = (rw c.in-Line.is at c.take_line-taken.ensures.lies).0
