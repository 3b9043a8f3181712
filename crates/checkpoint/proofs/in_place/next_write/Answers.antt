-- `next_write` meets its contract: zeros as long as there are blocks to zero, then bodies, then the header. Assumes nothing.
use mathlib.Core.Path.{refl}
use borrow.Author.Rules.{rules}
use Rattle.checkpoint.proofs.Placing.{next-zeros, next-header, next-body}
use Rattle.checkpoint.proofs.in_place.next_write.Goals as goal

pub returns-then-written-place : goal.returns-then-written-place
returns-then-written-place c = next-zeros _ _ _ _ (search rules)

pub returns-then-place-bodies : goal.returns-then-place-bodies
returns-then-place-bodies c = next-header _ _ _ _ (search rules) (search rules)

pub returns : goal.returns
returns c = next-body _ _ _ _ (search rules) (search rules) _ refl
