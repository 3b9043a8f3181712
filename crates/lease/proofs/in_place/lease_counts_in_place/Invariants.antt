-- `lease_counts_in_place` meets its contract, on every table that has the parts that it is lent. The loop's invariant: the first i places
-- hold the first i offsets and counts.
-- Assumes nothing.
use Prim.Native.Nat.{ℕ}
use mathlib.Core.List.{List}
use lib.ListN.{replicate}
use Rattle.types.proofs.Loops.{Filling}
use Rattle.tables.specs.Slots.{through}
use Rattle.lease.specs.Parts.{Whole, listing}
use Rattle.lease.specs.declared.LeaseTable.{LeaseTable}
use Rattle.lease.proofs.in_place.lease_counts_in_place.Given as goal

abbrev zeros : List ℕ
zeros = replicate 192 0

abbrev pub invariant-loop-i : goal.invariant-loop-i
invariant-loop-i l =
    (t : LeaseTable) → Whole (listing l.len l.offsets l.slots l.deliveries t) → Filling l.offsets zeros l.listed l.len l.i × Filling (through 0 l.slots l.deliveries) zeros l.attempts l.len l.i
