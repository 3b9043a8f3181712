-- `is_carried` meets its contract. Assumes nothing.
use borrow.Author.Tests.{eq-eqb, ne_eqb}
use Rattle.starts.proofs.in_place.is_carried.Goals as goal

pub returns-then-pair-eq0 : goal.returns-then-pair-eq0
returns-then-pair-eq0 c = rw (eq-eqb _ 0 c.if-pair-eq0.true)

pub returns : goal.returns
returns c = rw (ne_eqb _ 0 c.if-pair-eq0.false, c.is_acked_in_place.ensures)
