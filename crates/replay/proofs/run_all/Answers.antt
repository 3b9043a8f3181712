-- `run_all` is safe and ends: nothing is read yet, and nothing has started. Assumes nothing.
use Rattle.std.proofs.Common.{arith}
use Rattle.replay.proofs.run_all.Goals as goal

pub run-requires : goal.run-requires
run-requires g c =
    record {
      input = rw c.nothing_read.ensures (record { ordered = omega arith; inside = omega arith });
      session = c.nothing_started.ensures _;
    }
