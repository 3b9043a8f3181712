-- `journal::put_body` meets its contract: the first eight bytes, the payload bytes over the zeros, and the check.
-- Assumes nothing.
use Rattle.journal.proofs.Writer.{body-made}
use Rattle.journal.proofs.put_body.Goals as goal

pub returns : goal.returns
returns c =
    body-made _ _ _ _ _ _ _
    c.requires.1
    c.open_block.ensures
    c.write_bytes.ensures
    c.seal.ensures
