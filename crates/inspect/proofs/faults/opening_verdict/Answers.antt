-- `opening_verdict` meets its contract: each test is a row of the table. Assumes nothing.
use borrow.Author.Rules.{rules}
use mathlib.Core.Path.{sym, ◌∙◌}
use Rattle.inspect.proofs.Rows.{not_whole, other-kind, unchecked, other-number, opening-sound}
use Rattle.inspect.proofs.faults.opening_verdict.Goals as goal

pub returns-then-block-ne512 : goal.returns-then-block-ne512
returns-then-block-ne512 c = not_whole _ _ _ c.if-block-ne512.true

pub returns-then-block-kind : goal.returns-then-block-kind
returns-then-block-kind c = other-kind _ _ _ c.if-block-ne512.false c.if-block-kind.true

pub returns-then-not-is_sealed : goal.returns-then-not-is_sealed
returns-then-not-is_sealed c = unchecked _ _ _ c.if-block-ne512.false c.if-block-kind.false (sym c.is_sealed.ensures ∙ c.if-not-is_sealed.true)

pub returns-then-group-number : goal.returns-then-group-number
returns-then-group-number c = other-number _ _ _ c.if-block-ne512.false c.if-block-kind.false (sym c.is_sealed.ensures ∙ c.if-not-is_sealed.false) (λ e. c.if-group-number.true (c.read_u32-group.ensures ∙ e))

pub returns : goal.returns
returns c = opening-sound _ _ _ c.if-block-ne512.false c.if-block-kind.false (sym c.is_sealed.ensures ∙ c.if-not-is_sealed.false) (sym c.read_u32-group.ensures ∙ c.if-group-number.false)
