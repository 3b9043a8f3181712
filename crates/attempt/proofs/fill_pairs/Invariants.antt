-- `fill_pairs` meets its contract. The loop's invariant: the pairs read, those left and the list's other places are what the list
-- is to be. Assumes nothing.
use Prim.Native.Nat.{◌-◌, ◌≤◌}
use mathlib.Core.Path.{◌≡◌}
use mathlib.Core.List.{◌++◌}
use lib.ListN.{length, take, drop, get_or}
use Rattle.types.specs.Lists.{entries_of}
use Rattle.attempt.specs.Snapshot.{apart, read_pairs, pairs_of}
use Rattle.attempt.proofs.fill_pairs.Given as goal

abbrev pub invariant-loop-i : goal.invariant-loop-i
invariant-loop-i l =
    (l.i ≤ l.n)
    × (length l.pairs ≡ length l.initial.pairs)
    × (take l.i (entries_of l.pairs) ++ (read_pairs (apart (get_or l.input 0 0)) l.n (l.n - l.i) l.i l.input ++ drop l.n (entries_of l.pairs))
    ≡ pairs_of l.n l.input ++ drop l.n (entries_of l.initial.pairs))
