-- `LeaseTable::resume_attempts` meets its contract. The loop's invariant: what the pairs from the place on still make of the counts
-- that are held is what all of them make of those that were carried.
-- Assumes nothing.
use mathlib.Core.Path.{◌≡◌}
use mathlib.Core.Option.{some}
use lib.ListN.{drop}
use Rattle.types.specs.Lists.{entries_of}
use Rattle.tables.specs.Carried.{carried_in, Tidy}
use Rattle.lease.specs.State.{view}
use Rattle.lease.proofs.Carried.{carry_on_all}
use Rattle.lease.proofs.LeaseTable.resume_attempts.Given as goal

abbrev pub invariant-loop-pair : goal.invariant-loop-pair
invariant-loop-pair l =
    Tidy l.carried × (carry_on_all (entries_of (drop l.pair-index l.pairs)) (carried_in l.carried) ≡ carry_on_all (entries_of l.pairs) (some (view l.self).carried))
