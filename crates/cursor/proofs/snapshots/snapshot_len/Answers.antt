-- `snapshot_len` meets its contract. Assumes nothing.
use native.Mathlib.Omega.{arith}
use Rattle.cursor.specs.Layout.{view}
use Rattle.cursor.proofs.Snapshot.{cursor-length}
use Rattle.cursor.proofs.snapshots.snapshot_len.Goals as goal

pub returns : goal.returns
returns c =
    omega (arith, c.snapshot_len.ensures, c.ahead_runs-runs.ensures, cursor-length (view c.args.cursor.now))
