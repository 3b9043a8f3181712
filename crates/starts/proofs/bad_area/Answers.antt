-- `bad_area` meets its contract: what the journal says of the length, and the tests of the two halves. Assumes nothing.
use mathlib.Core.Path.{sym, ◌∙◌}
use borrow.Author.Tests.{ne_eqb, eq-eqb}
use Rattle.consumer.specs.State.{bad_area}
use Rattle.starts.proofs.bad_area.Goals as goal

pub returns-then-bad_length : goal.returns-then-bad_length
unfolding bad_area
returns-then-bad_length c = rw (sym c.bad_length.ensures ∙ c.if-bad_length.true)

pub returns-then-blocks-ne0 : goal.returns-then-blocks-ne0
unfolding bad_area
returns-then-blocks-ne0 c = rw (sym c.bad_length.ensures ∙ c.if-bad_length.false, ne_eqb _ 0 c.if-blocks-ne0.true)

pub returns : goal.returns
unfolding bad_area
returns c = rw (sym c.bad_length.ensures ∙ c.if-bad_length.false, eq-eqb _ 0 c.if-blocks-ne0.false)
