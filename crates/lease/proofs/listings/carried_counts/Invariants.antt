-- `carried_counts` meets its contract. The loop's invariant: the first i places hold the first i offsets
-- and counts. Assumes nothing.
use Prim.Native.Nat.{ℕ}
use mathlib.Core.List.{List}
use lib.ListN.{replicate}
use Rattle.types.proofs.Loops.{Filling}
use Rattle.lease.specs.Layout.{table_in}
use Rattle.lease.proofs.listings.carried_counts.Given as goal

abbrev zeros : List ℕ
zeros = replicate 128 0

abbrev pub invariant-loop-i : goal.invariant-loop-i
invariant-loop-i l =
    Filling (table_in l.table).carried_offsets zeros l.offsets l.len l.i × Filling (table_in l.table).carried_counts zeros l.counts l.len l.i
