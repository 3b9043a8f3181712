-- `lease_counts` meets its contract. The loop's invariant: the first i places hold the first i offsets and
-- counts. Assumes nothing.
use Prim.Native.Nat.{ℕ}
use mathlib.Core.List.{List}
use lib.ListN.{replicate}
use Rattle.types.proofs.Loops.{Filling}
use Rattle.tables.specs.Slots.{through}
use Rattle.lease.specs.Layout.{table_in}
use Rattle.lease.proofs.listings.lease_counts.Given as goal

abbrev zeros : List ℕ
zeros = replicate 192 0

abbrev pub invariant-loop-i : goal.invariant-loop-i
invariant-loop-i l =
    Filling (table_in l.table).offsets zeros l.offsets l.len l.i × Filling (through 0 (table_in l.table).slots (table_in l.table).deliveries) zeros l.attempts l.len l.i
