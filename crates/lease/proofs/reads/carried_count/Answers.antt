-- `carried_count` meets its contract. Assumes nothing.
-- the place that was found is in use
use native.Mathlib.Omega.{arith}
use Rattle.types.specs.Limits.{CARRIED}
use Rattle.words.proofs.Columns.{column-is, column-at}
use Rattle.lease.specs.Layout.{CARRIED-OFFSETS, CARRIED-COUNTS, table_in, CARRIED-LEN}
use Rattle.lease.proofs.Slots.{carried, uncarried}
use Rattle.lease.proofs.Stores.{carried-used}
use Rattle.lease.proofs.InWords.{whole, carried_narrow}
use Prim.Native.Nat.{◌<◌}
use Rattle.words.specs.Columns.{word}
use Rattle.lease.proofs.reads.carried_count.Goals as goal
use Rattle.lease.proofs.reads.carried_count.Goals.{In-Found}

used : (p : In-Found) → p.in-Found.at < word CARRIED-LEN p.args.table.now
used p =
    carried-used p.args.table.now p.args.offset.0 p.find-place.ensures p.in-Found.is

inside : (p : In-Found) → p.in-Found.at < CARRIED
inside p = omega (arith, used p, p.requires.table.carried-len)

pub returns-in_default : goal.returns-in_default
returns-in_default c =
    let w = c.args.table.now in
    rw (uncarried (table_in w) (whole c.requires).full c.requires.table (rw (column-is CARRIED-OFFSETS CARRIED w) at c.find-place.ensures) c.in_default.is).is

pub overflow_cast-result : goal.overflow_cast-result
overflow_cast-result c =
    omega (arith, carried_narrow c.requires c.in-Found.at (used (goal.at.overflow_cast-result c).In-Found))

pub returns : goal.returns
returns c =
    let w = c.args.table.now in
    rw ((carried (table_in w) (whole c.requires).full c.requires.table (rw (column-is CARRIED-OFFSETS CARRIED w) at c.find-place.ensures) c.in-Found.is).is, column-at CARRIED-COUNTS CARRIED w c.in-Found.at (inside (goal.at.returns c).In-Found))
