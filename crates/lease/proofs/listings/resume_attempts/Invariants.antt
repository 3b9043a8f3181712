-- `resume_attempts` meets its contract. The loop's invariant: what the pairs that are left still make of the counts that are held is what
-- all of them make of those that were carried.
-- Assumes nothing.
use mathlib.Core.Path.{◌≡◌}
use mathlib.Core.Option.{some}
use Rattle.types.specs.Keyed.{entries}
use Rattle.tables.specs.Carried.{carried_in, Tidy}
use Rattle.lease.specs.Layout.{view}
use Rattle.lease.proofs.Carried.{carry_on_all}
use Rattle.lease.proofs.listings.resume_attempts.Given as goal

abbrev pub invariant-loop-offset : goal.invariant-loop-offset
invariant-loop-offset l =
    let left = l.offset-iterator in
    Tidy l.carried × (carry_on_all (entries left.a.rest.now left.b.rest.now) (carried_in l.carried) ≡ carry_on_all (entries l.offsets l.attempts) (some (view l.table).carried))
