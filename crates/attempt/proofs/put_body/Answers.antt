-- `put_body` meets its contract: the count is written behind the version, and the pairs behind both. Assumes nothing.
use mathlib.Core.Path.{sym, ◌∙◌}
use Rattle.types.specs.Keyed.{entries}
use Rattle.attempt.specs.Versions.{byte_of}
use Rattle.attempt.proofs.Writing.{length_both, body-put}
use Rattle.attempt.proofs.put_body.Goals as goal
use Rattle.attempt.proofs.put_body.Goals.{After-write_u32}

pub returns : goal.returns
returns c =
    let a = c.args in
    let ks = a.offsets.now in
    let vs = a.attempts.now in
    body-put (byte_of a.version) (entries ks vs) a.count a.at a.out.now c.write_u32.new.buf _
    (length_both ks vs ∙ sym c.requires.0)
    c.requires.2
    (rw c.byte.ensures at c.write_u32.ensures)
    c.put_pairs.ensures
