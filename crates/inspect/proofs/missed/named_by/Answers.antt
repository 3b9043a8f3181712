-- `named_by` meets its contract. Assumes nothing.
use mathlib.Core.Path.{sym, ◌∙◌}
use borrow.Author.Rules.{rules}
use Rattle.journal.proofs.Sound.{kind-test, no_kind}
use Rattle.inspect.proofs.Named.{named-header, named-body, named_none}
use Rattle.inspect.proofs.missed.named_by.Goals as goal

pub returns-then-is_head : goal.returns-then-is_head
returns-then-is_head c =
    c.group_of.ensures ∙ named-header _ (sym c.is_head.ensures ∙ c.if-is_head.true)

pub returns-then-block-ne512 : goal.returns-then-block-ne512
returns-then-block-ne512 c =
    named_none _ (sym c.is_head.ensures ∙ c.if-is_head.false) (sym (no_kind 2 _ (λ k. c.if-block-ne512.true k.whole)))

pub returns-then-block-ne2 : goal.returns-then-block-ne2
returns-then-block-ne2 c =
    named_none _ (sym c.is_head.ensures ∙ c.if-is_head.false) (sym (no_kind 2 _ (λ k. c.if-block-ne2.true k.kind-is)))

pub returns-then-not-is_sealed : goal.returns-then-not-is_sealed
returns-then-not-is_sealed c =
    let k = sym (kind-test 2 _ c.if-block-ne512.false c.if-block-ne2.false) ∙ sym c.is_sealed.ensures ∙ c.if-not-is_sealed.true in
    named_none _ (sym c.is_head.ensures ∙ c.if-is_head.false) k

pub returns : goal.returns
returns c =
    let k = sym (kind-test 2 _ c.if-block-ne512.false c.if-block-ne2.false) ∙ sym c.is_sealed.ensures ∙ c.if-not-is_sealed.false in
    c.group_of-2.ensures ∙ named-body _ (sym c.is_head.ensures ∙ c.if-is_head.false) k
