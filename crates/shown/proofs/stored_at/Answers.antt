-- `stored_at` meets its contract: the lease is made of what its columns have at the slot, zeros past their end. Assumes nothing.
use native.Mathlib.Omega.{arith}
use mathlib.Core.Path.{sym}
use lib.ListN.{get_or-eq_default}
use Rattle.types.specs.Limits.{LEASES}
use Rattle.lease.specs.State.{nil, stored_in}
use Rattle.lease.specs.Parts.{Even}
use Rattle.lease.proofs.Leases.{column-length, column-at}
use borrow.Author.Rules.{rules}
use Rattle.shown.proofs.stored_at.Goals as goal
use Rattle.shown.proofs.stored_at.Goals.{Start}

even : (s : Start) → let t = s.args.table in Even LEASES t.generations t.attempt_starts t.deadlines t.deliveries t.workers
even s = record { generations = search rules; starts = search rules; deadlines = search rules; counts = search rules; workers = search rules }

pub returns-then-at-ge-LEASES : goal.returns-then-at-ge-LEASES
returns-then-at-ge-LEASES c =
    let s = c in
    sym (get_or-eq_default (stored_in s.args.table) nil {n = s.args.slot} (omega (arith, column-length (even (goal.at.returns-then-at-ge-LEASES c).Start), c.if-at-ge-LEASES.true)))

pub returns : goal.returns
returns c =
    let s = c in
    sym (column-at (even (goal.at.returns c).Start) s.args.slot)
