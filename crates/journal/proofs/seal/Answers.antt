-- `journal::seal` meets its contract: the check goes behind the bytes that it is of. Assumes nothing.
use native.Mathlib.Omega.{arith}
use lib.ListN.{length-take}
use Rattle.journal.proofs.Writer.{seal-made}
use Rattle.journal.proofs.seal.Goals as goal

pub slice_bounds-crc32c-end-2 : goal.slice_bounds-crc32c-end-2
slice_bounds-crc32c-end-2 c = simp length-take (omega arith)

pub returns : goal.returns
returns c =
    seal-made c.args.block.now _ _ _ c.requires
    c.crc32c-check.ensures
    c.write_u32.ensures
