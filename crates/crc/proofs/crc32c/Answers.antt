-- `crc::crc32c` meets its contract: it goes on behind nothing, with all the bytes. Assumes nothing.
use native.Mathlib.Omega.{arith}
use mathlib.Core.Path.{ap, sym, ◌∙◌}
use lib.ListN.{length}
use lib.Seq.{length-take-le, take_all}
use Rattle.crc.specs.Crc32c.{crc}
use Rattle.crc.proofs.Crc.{crc-from-zero}
use Rattle.crc.proofs.crc32c.Goals as goal

pub slice_bounds-crc32c_append-end : goal.slice_bounds-crc32c_append-end
slice_bounds-crc32c_append-end c =
    let b = c.args.bytes.now in
    sym (length-take-le (length b) b (omega arith))

pub returns : goal.returns
returns c =
    let b = c.args.bytes.now in
    c.crc32c_append.ensures ∙ crc-from-zero _ ∙ ap crc (take_all (length b) b (omega arith))
