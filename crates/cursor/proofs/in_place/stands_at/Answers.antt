-- `stands_at` meets its contract. Assumes nothing.
use borrow.Author.Tests.{lt-ltb, le-ltb}
use Rattle.cursor.proofs.in_place.stands_at.Goals as goal

pub returns-then-at-n : goal.returns-then-at-n
returns-then-at-n c = simp (lt-ltb _ _ c.if-at-n.true)

pub returns-else-at-n : goal.returns-else-at-n
returns-else-at-n c = simp (le-ltb _ _ c.if-at-n.false)
