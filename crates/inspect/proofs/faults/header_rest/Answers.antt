-- `header_rest` meets its contract: each test is a row of the table. Assumes nothing.
use borrow.Author.Rules.{rules}
use mathlib.Core.Path.{sym, ◌∙◌}
use Rattle.inspect.proofs.Rows.{no-zeros, no-zeros-behind, to-sizes}
use Rattle.inspect.proofs.faults.header_rest.Goals as goal

pub returns-then-not-all_zero : goal.returns-then-not-all_zero
returns-then-not-all_zero c = no-zeros _ _ _ (sym c.all_zero.ensures ∙ c.if-not-all_zero.true)

pub returns-then-not-all_zero-2 : goal.returns-then-not-all_zero-2
returns-then-not-all_zero-2 c = no-zeros-behind _ _ _ (sym c.all_zero.ensures ∙ c.if-not-all_zero.false) (sym c.all_zero-2.ensures ∙ c.if-not-all_zero-2.true)

pub returns : goal.returns
returns c = c.sizes_verdict.ensures ∙ to-sizes _ _ _ (sym c.all_zero.ensures ∙ c.if-not-all_zero.false) (sym c.all_zero-2.ensures ∙ c.if-not-all_zero-2.false)
