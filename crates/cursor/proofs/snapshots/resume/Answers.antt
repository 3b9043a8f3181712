-- `resume` meets its contract. Assumes nothing.
use native.Mathlib.Omega.{arith}
use Rattle.cursor.proofs.Made.{becomes-empty}
use Rattle.cursor.proofs.snapshots.resume.Goals as goal

pub returns : goal.returns
returns c =
    becomes-empty c.args.cursor.now c.requires c.args.committed.0 (omega arith)
