-- `journal::copy_payload` meets its contract. The invariant: the content of the bodies before block `at` stands in
-- front, and behind it what stood there. Assumes nothing.
use Prim.Native.Nat.{◌-◌}
use Rattle.journal.proofs.Reader.{Copied}
use Rattle.journal.proofs.copy_payload.Given as goal

abbrev pub invariant-loop-copied : goal.invariant-loop-copied
invariant-loop-copied l = Copied l.area l.first l.total l.initial.out l.out l.at l.copied

abbrev pub decreases-loop-copied : goal.decreases-loop-copied
decreases-loop-copied l = l.total - l.copied
