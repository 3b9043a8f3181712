-- `body_rest` meets its contract: each test is a row of the table. Assumes nothing.
use borrow.Author.Rules.{rules}
use native.Mathlib.Omega.{arith}
use mathlib.Core.Path.{sym, ◌∙◌}
use Rattle.inspect.proofs.Rows.{other-index, other-used, no-zeros-after, body-sound, zeros-from}
use Rattle.inspect.proofs.faults.body_rest.Goals as goal

pub overflow_cast-block : goal.overflow_cast-block
overflow_cast-block c = omega (arith, c.type_inv.block 1)

pub returns-then-block-index : goal.returns-then-block-index
returns-then-block-index c = other-index _ _ _ c.if-block-index.true

pub returns-then-bytes-used : goal.returns-then-bytes-used
returns-then-bytes-used c = other-used _ _ _ c.if-block-index.false (λ e. c.if-bytes-used.true (c.read_u16-bytes.ensures ∙ e))

pub returns-then-not-all_zero : goal.returns-then-not-all_zero
returns-then-not-all_zero c = no-zeros-after _ _ _ c.if-block-index.false (sym c.read_u16-bytes.ensures ∙ c.if-bytes-used.false) (sym (zeros-from _ _ _ (rw c.if-bytes-used.false at c.min-from.ensures)) ∙ sym c.all_zero.ensures ∙ c.if-not-all_zero.true)

pub returns : goal.returns
returns c = body-sound _ _ _ c.if-block-index.false (sym c.read_u16-bytes.ensures ∙ c.if-bytes-used.false) (sym (zeros-from _ _ _ (rw c.if-bytes-used.false at c.min-from.ensures)) ∙ sym c.all_zero.ensures ∙ c.if-not-all_zero.false)
