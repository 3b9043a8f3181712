-- `carry` meets its contract. The loop's invariant: the entries in the columns, and the counts among the pairs to come that are
-- carried, are together those of all pairs. Assumes nothing.
use Prim.Native.Nat.{◌≤◌}
use mathlib.Core.Path.{◌≡◌}
use mathlib.Core.List.{◌++◌}
use lib.ListN.{length, take, drop}
use Rattle.types.specs.Keyed.{entries}
use Rattle.types.specs.Lists.{entries_of}
use Rattle.cursor.specs.View as cursors
use Rattle.cursor.specs.View.{ack_cursor}
use Rattle.starts.specs.Restart.{unsettled_counts}
use Rattle.starts.proofs.in_place.carry.Given as goal

abbrev pub invariant-loop-i : goal.invariant-loop-i
invariant-loop-i l =
    let k = cursors.view (ack_cursor l.committed l.starts l.ends l.runs) in
    (l.i ≤ l.count) ×
    (l.len ≤ l.i) ×
    (length l.offsets ≡ 128) ×
    (length l.counts ≡ 128) ×
    (entries (take l.len l.offsets) (take l.len l.counts) ++ unsettled_counts k (entries_of (drop l.i (take l.count l.pairs))) ≡ unsettled_counts k (entries_of (take l.count l.pairs)))
