-- `check_pairs` meets its contract. The loop's invariant: what the pairs that are left answer behind the last offset is
-- what all of them answer. Assumes nothing.
use Prim.Native.Nat.{◌-◌}
use mathlib.Core.Path.{◌≡◌}
use mathlib.Core.List.{◌++◌}
use Rattle.types.specs.Refusal.{done}
use Rattle.types.specs.Table.{checked}
use Rattle.attempt.specs.Snapshot.{apart, read_pairs, pairs_as, order_after, limit_table, pairs_table}
use Rattle.attempt.specs.Versions.{byte_of}
use Rattle.attempt.proofs.check_pairs.Given as goal

abbrev pub invariant-loop-i : goal.invariant-loop-i
invariant-loop-i l =
    checked (order_after l.prev (read_pairs (apart (byte_of l.version)) l.count (l.count - l.i) l.i l.input) ++ limit_table (pairs_as (byte_of l.version) l.count l.input)) (done l.count)
    ≡ checked (pairs_table (pairs_as (byte_of l.version) l.count l.input)) (done l.count)
