-- `own_body_verdict` meets its contract. Assumes nothing.
use Rattle.inspect.proofs.faults.own_body_verdict.Goals as goal

pub returns : goal.returns
returns c = rw (c.body_verdict.ensures, c.max-index.ensures, c.min-used.ensures, c.read_u16.ensures)
