-- `other_half` meets its contract. Assumes nothing.
use borrow.Author.Tests.{eq-eqb, ne_eqb}
use borrow.Author.Rules.{rules}
use Rattle.inspect.proofs.other.other_half.Goals as goal

pub returns-then-origin-eq0 : goal.returns-then-origin-eq0
returns-then-origin-eq0 c = rw (← c.origin.ensures, eq-eqb _ 0 c.if-origin-eq0.true) c.half_blocks.ensures

pub returns : goal.returns
returns c = rw (← c.origin.ensures, ne_eqb _ 0 c.if-origin-eq0.false)
