-- `stretch_at` meets its contract. Assumes nothing.
use Rattle.cursor.proofs.open.stretch_at.Goals as goal

pub returns : goal.returns
returns c = rw (c.start_below.ensures, c.max.ensures, c.end_before.ensures)
