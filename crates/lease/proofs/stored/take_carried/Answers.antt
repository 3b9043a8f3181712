-- `take_carried` meets its contract. Assumes nothing.
-- the place that was found is in use
use Prim.Native.Nat.{◌+◌, ◌-◌, ◌<◌}
use native.Mathlib.Omega.{arith}
use mathlib.Core.Path.{◌≡◌, subst}
use lib.ListN.{take, drop, get_or}
use Rattle.types.specs.Limits.{CARRIED}
use Rattle.words.specs.Columns.{word}
use Rattle.tables.specs.Search.{Placed}
use Rattle.lease.specs.Layout.{CARRIED-LEN, CARRIED-OFFSETS, table_in}
use Rattle.lease.proofs.Stores.{carried-taken, carried-used, passed_none, passed-one}
use Rattle.lease.proofs.InWords.{carried_narrow}
use Rattle.lease.proofs.stored.take_carried.Goals as goal
use Rattle.lease.proofs.stored.take_carried.Goals.{In-Found}

used : (p : In-Found) → p.in-Found.at < word CARRIED-LEN p.args.table.now
used p =
    carried-used p.args.table.now p.args.offset.0 p.find-place.ensures p.in-Found.is

inside : (p : In-Found) → p.in-Found.at < CARRIED
inside p = omega (arith, used p, p.requires.table.carried-len)

pub overflow_cast-count : goal.overflow_cast-count
overflow_cast-count c =
    omega (arith, carried_narrow c.requires c.in-Found.at (used (goal.at.overflow_cast-count c).In-Found))

pub returns-in-Missing : goal.returns-in-Missing
returns-in-Missing c =
    let w = c.args.table.now in
    passed_none w c.args.offset.0 c.in-Missing.field-0
    (subst (Placed c.args.offset.0 (take (word CARRIED-LEN w) (take CARRIED (drop CARRIED-OFFSETS w)))) c.in-Missing.is c.find-place.ensures)

pub returns-in-Found : goal.returns-in-Found
returns-in-Found c =
    let w = c.args.table.now in
    let at = c.in-Found.at in
    let n = word CARRIED-LEN w in
    let less : n - 1 ≡ n - (at + 1 - at) = omega arith in
    passed-one w c.args.offset.0 at
    (subst (Placed c.args.offset.0 (take n (take CARRIED (drop CARRIED-OFFSETS w)))) c.in-Found.is c.find-place.ensures) (inside (goal.at.returns-in-Found c).In-Found)
    (carried-taken w c.requires.long c.remove.new.column c.table-1.given.0 c.remove-in-Found.new.column c.table-in-Found-1.given.0
    (record { from = at; to = at + 1; count = get_or (table_in w).carried_counts at 0 }) (n - 1) less c.remove.ensures c.remove-in-Found.ensures)
