-- `journal::is_kind` meets its contract: length, kind and check are what it tests. Assumes nothing.
use mathlib.Core.Path.{◌∙◌}
use Rattle.journal.proofs.Sound.{kind-test, no_kind}
use Rattle.journal.proofs.is_kind.Goals as goal

pub returns-then-block-ne512 : goal.returns-then-block-ne512
returns-then-block-ne512 c = no_kind _ _ (λ k. c.if-block-ne512.true k.whole)

pub returns-then-block-kind : goal.returns-then-block-kind
returns-then-block-kind c = no_kind _ _ (λ k. c.if-block-kind.true k.kind-is)

pub returns : goal.returns
returns c = c.is_sealed.ensures ∙ kind-test _ _ c.if-block-ne512.false c.if-block-kind.false
