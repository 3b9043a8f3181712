-- `behind_body` meets its contract. Assumes nothing.
use borrow.Author.Rules.{rules}
use borrow.Author.Tests.{lt-ltb, le-ltb, eq-eqb, ne_eqb}
use Rattle.inspect.proofs.places.behind_body.Goals as goal

pub returns-then-index-bodies : goal.returns-then-index-bodies
returns-then-index-bodies c = rw (lt-ltb _ _ c.if-index-bodies.true)

pub returns-then-number-eq18446744073709551615 : goal.returns-then-number-eq18446744073709551615
returns-then-number-eq18446744073709551615 c = rw (le-ltb _ _ c.if-index-bodies.false, eq-eqb _ _ c.if-number-eq18446744073709551615.true)

pub returns : goal.returns
returns c = rw (le-ltb _ _ c.if-index-bodies.false, ne_eqb _ _ c.if-number-eq18446744073709551615.false)
