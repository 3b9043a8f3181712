-- `journal::copy_payload` meets its contract. The invariant: the content of the bodies before block `at` stands in
-- front, and behind it what stood there. Assumes nothing.
use native.Mathlib.Omega.{arith}
use Rattle.journal.proofs.Reader.{copy_more}
use Rattle.journal.proofs.copy_payload.Goals as goal
use Rattle.journal.proofs.copy_payload.Goals.{In-loop-copied}

pub loop-copied-preserved : goal.loop-copied-preserved
loop-copied-preserved c =
    copy_more _ _ _ _ c.requires.0 c.requires.1 _ _ _ c.loop-copied.invariant _
    c.loop-copied-test.true
    (omega (arith, c.min-size.ensures))
    _
    _
    c.write_bytes.ensures
