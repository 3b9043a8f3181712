-- `journal::write_header` meets its contract: the first eight bytes, three fields behind them, and the check. Assumes
-- nothing.
use Prim.Native.Nat.{◌%◌}
use mathlib.Core.Path.{ap}
use Rattle.journal.proofs.Writer.{header_made, fill-whole, fill-refused}
use Rattle.journal.proofs.write_header.Goals as goal

pub returns-then-block-ne512 : goal.returns-then-block-ne512
returns-then-block-ne512 c = fill-refused _ _ c.if-block-ne512.true

pub returns : goal.returns
returns c =
    fill-whole _ _ _ c.if-block-ne512.false
    (header_made _ _ _ _ _ _ _ _ _ _ _ _ _
    (ap (λ n. n % 256) c.bodies_for-bodies.ensures)
    c.open_block.ensures
    c.write_u64.ensures
    c.write_u16.ensures
    c.write_u16-2.ensures
    c.seal.ensures)
