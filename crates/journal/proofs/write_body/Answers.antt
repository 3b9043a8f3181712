-- `journal::write_body` meets its contract: the part of the payload that it hands on is the chunk of the body.
-- Assumes nothing.
use mathlib.Core.Path.{◌∙◌, ap}
use Rattle.journal.specs.Blocks.{body_block}
use Rattle.journal.proofs.Writer.{chunk_part, fill-whole, fill-refused}
use Rattle.journal.proofs.write_body.Goals as goal

pub returns-then-block-ne512 : goal.returns-then-block-ne512
returns-then-block-ne512 c = fill-refused _ _ c.if-block-ne512.true

pub returns : goal.returns
returns c =
    let a = c.args in
    fill-whole _ a.block.now _ c.if-block-ne512.false
    (c.put_body.ensures
    ∙ ap (body_block a.number a.index)
    (chunk_part a.index _ _ a.payload.now
    c.chunk_start-from.ensures
    c.min-to.ensures))
