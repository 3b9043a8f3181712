-- `used_in` meets its contract. Assumes nothing.
use borrow.Author.Rules.{rules}
use native.Mathlib.Omega.{arith}
use borrow.Author.Tests.{lt-ltb, le-ltb}
use Rattle.inspect.proofs.places.used_in.Goals as goal

pub returns-then-index-bodies : goal.returns-then-index-bodies
returns-then-index-bodies c = rw (lt-ltb _ _ c.if-index-bodies.true)

pub returns-then-bodies-eq0 : goal.returns-then-bodies-eq0
returns-then-bodies-eq0 c = rw (le-ltb _ _ c.if-index-bodies.false) (omega arith)

pub returns-then-total-bodies : goal.returns-then-total-bodies
returns-then-total-bodies c = rw (le-ltb _ _ c.if-index-bodies.false) (omega arith)

pub returns : goal.returns
returns c = rw (le-ltb _ _ c.if-index-bodies.false)
