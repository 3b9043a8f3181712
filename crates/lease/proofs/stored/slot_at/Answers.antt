-- `slot_at` meets its contract. Assumes nothing.
use Prim.Native.Nat.{◌+◌, ◌%◌, ◌<◌}
use native.Mathlib.Omega.{arith}
use lib.ListN.{get_or}
use Rattle.types.specs.Limits.{LEASES}
use Rattle.words.proofs.Columns.{column-at}
use Rattle.lease.specs.Layout.{SLOTS}
use Rattle.lease.proofs.stored.slot_at.Goals as goal

pub returns : goal.returns
returns c =
    let low : get_or c.args.table.now (SLOTS + c.args.at) 0 % LEASES < LEASES = omega arith in
    (rw (column-at SLOTS LEASES c.args.table.now c.args.at c.requires.1), low)
