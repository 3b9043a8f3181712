-- `merged` meets its contract. The loop's invariant: what is filled, and what is left of the two lists merged, make the whole.
-- Assumes nothing.
use Prim.Native.Nat.{◌-◌}
use lib.ListN.{take}
use Rattle.types.specs.Keyed.{entries}
use Rattle.types.specs.Lists.{counts_in}
use Rattle.tables.proofs.Merge.{Merging}
use Rattle.tables.proofs.counts.merged.Given as goal

abbrev pub invariant-loop-k : goal.invariant-loop-k
invariant-loop-k l =
    Merging (counts_in l.counts) (entries (take l.len l.others) (take l.len l.other_counts)) l.offsets l.attempts l.i l.j l.k l.end

abbrev pub decreases-loop-k : goal.decreases-loop-k
decreases-loop-k l = l.end - l.k
