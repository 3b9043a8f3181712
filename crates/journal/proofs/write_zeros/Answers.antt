-- `journal::write_zeros` meets its contract. Assumes nothing.
use mathlib.Core.Path.{ap, ◌∙◌}
use lib.ListN.{replicate}
use Rattle.journal.proofs.Writer.{fill-whole, fill-refused}
use Rattle.journal.proofs.write_zeros.Goals as goal

pub returns-then-block-ne512 : goal.returns-then-block-ne512
returns-then-block-ne512 c = fill-refused _ _ c.if-block-ne512.true

pub returns : goal.returns
returns c =
    fill-whole _ _ _ c.if-block-ne512.false
    (c.clear.ensures ∙ ap (λ n. replicate n 0) c.if-block-ne512.false)
