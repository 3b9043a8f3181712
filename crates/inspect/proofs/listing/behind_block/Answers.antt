-- `behind_block` meets its contract. Assumes nothing.
use mathlib.Core.Path.{◌∙◌}
use Rattle.inspect.proofs.Sequence.{place-next}
use borrow.Author.Rules.{rules}
use Rattle.inspect.proofs.listing.behind_block.Goals as goal

pub returns : goal.returns
returns c = (rw c.half_blocks.ensures at c.after.ensures) ∙ place-next _ _ _ _ c.requires.1
