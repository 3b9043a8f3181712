-- `release_below_in_place` meets its contract: that of `LeaseTable::release_below`, on every table that has the parts that it is lent.
-- Assumes nothing.
-- a table with the parts that the arguments are
use Prim.Native.Nat.{ℕ, ◌≤◌}
use lib.ListN.{take}
use Rattle.tables.proofs.Columns.{taken-out-front}
use Rattle.tables.specs.Search.{Boundary}
use Rattle.tables.proofs.Search.{boundary_inside}
use Rattle.lease.specs.Parts.{releasing}
use Rattle.lease.specs.declared.LeaseTable.{LeaseTable}
use Rattle.lease.proofs.Bounds.{within, from_first}
use Rattle.lease.proofs.Changes.{releases}
use Rattle.lease.proofs.in_place.release_below_in_place.Goals as goal
use Rattle.lease.proofs.in_place.release_below_in_place.Goals.{Start}

abbrev table : Start → LeaseTable → LeaseTable
table s = releasing s.args.len s.args.carried_len s.args.offsets.now s.args.slots.now s.args.carried_offsets.now s.args.carried_counts.now

-- the two places that were found lie within what is in use
carried-used : (s : Start) (n : ℕ) → Boundary s.args.up_to (take s.args.carried_len s.args.carried_offsets.now) n → n ≤ s.args.carried_len
carried-used s n h = boundary_inside s.args.up_to s.args.carried_len s.args.carried_offsets.now h

used : (s : Start) (n : ℕ) → Boundary s.args.up_to (take s.args.len s.args.offsets.now) n → n ≤ s.args.len
used s n h = boundary_inside s.args.up_to s.args.len s.args.offsets.now h

pub returns : goal.returns
returns c t w =
    let s = (goal.at.returns c).Start in
    let n = c.position-first.result in
    let carried-few = w.sound.carried-len in
    releases (table (goal.at.returns c).Start t) w.full w.sound s.args.up_to n c.position-carried.result
    c.remove-3.new.column c.set_aside.new.slots c.remove.new.column c.remove-2.new.column
    c.position-first.ensures c.position-carried.ensures (used (goal.at.returns c).Start c.position-first.result c.position-first.ensures)
    (taken-out-front s.args.len 0 n s.args.offsets.now (from_first n) (used (goal.at.returns c).Start c.position-first.result c.position-first.ensures) (within w.full.offsets s.requires) c.remove-3.ensures)
    c.set_aside.ensures
    (taken-out-front s.args.carried_len 0 c.position-carried.result s.args.carried_offsets.now (from_first _) (carried-used (goal.at.returns c).Start c.position-carried.result c.position-carried.ensures) (within w.full.carried-offsets carried-few) c.remove.ensures)
    (taken-out-front s.args.carried_len 0 c.position-carried.result s.args.carried_counts.now (from_first _) (carried-used (goal.at.returns c).Start c.position-carried.result c.position-carried.ensures) (within w.full.carried-counts carried-few) c.remove-2.ensures)
