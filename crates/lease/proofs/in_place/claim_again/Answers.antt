-- `claim_again` meets its contract: that of `LeaseTable::claim`, on every table that has the parts that it is lent and the lease of the offset
-- at the place.
-- Assumes nothing.
-- a table with the parts that the arguments are
use Prim.Native.Nat.{ℕ, ◌≤◌}
use native.Mathlib.Omega.{arith}
use mathlib.Core.Path.{◌≡◌, refl, ap, ◌∙◌}
use lib.ListN.{get_or, set}
use borrow.Author.Tests.{lt-ltb, le-ltb}
use Rattle.types.specs.Limits.{MAX, sat32}
use Rattle.lease.specs.State.{nil, stored_in, leases_in}
use Rattle.lease.specs.Operations.{lease}
use Rattle.lease.specs.Helpers.{regranting}
use Rattle.lease.specs.declared.LeaseTable.{LeaseTable}
use Rattle.lease.proofs.Leases.{column-at, column-set}
use Rattle.lease.proofs.Slots.{leased, stored_at, lease-at}
use Rattle.lease.proofs.Claims.{claim_in_flight, claim_exhausted, claimed, count-again, granted-again}
use Rattle.lease.proofs.in_place.claim_again.Goals as goal
use Rattle.lease.proofs.in_place.claim_again.Goals.{Start}

abbrev table : Start → LeaseTable → LeaseTable
table s =
    regranting s.args.config s.args.len s.args.carried_len s.args.generation s.args.redeliveries
    s.args.slots.now s.args.generations.now s.args.attempt_starts.now s.args.deadlines.now s.args.deliveries.now s.args.workers.now

fits : (s : Start) → s.args.offset ≤ MAX
fits s = omega arith

pub returns-then-now-deadlines : goal.returns-then-now-deadlines
returns-then-now-deadlines c t w p =
    claim_in_flight (table (goal.at.returns-then-now-deadlines c).Start t) w.sound c.args.worker c.args.offset c.args.now (rw (lease-at (table (goal.at.returns-then-now-deadlines c).Start t) w.full w.sound c.args.offset p refl, ← c.slot_at-slot.ensures.0) (lt-ltb _ _ c.if-now-deadlines.true))

pub returns-then-generation-eq-MAX : goal.returns-then-generation-eq-MAX
returns-then-generation-eq-MAX c t w p =
    claim_exhausted (table (goal.at.returns-then-generation-eq-MAX c).Start t) w.sound c.args.worker c.args.offset c.args.now (rw (lease-at (table (goal.at.returns-then-generation-eq-MAX c).Start t) w.full w.sound c.args.offset p refl, ← c.slot_at-slot.ensures.0) (le-ltb _ _ c.if-now-deadlines.false)) c.if-generation-eq-MAX.true

pub returns : goal.returns
returns c t w p =
    let u = table (goal.at.returns c).Start t in
    let at = c.args.at in
    let h = leased u w.full w.sound p refl in
    let one = stored_at u w.full w.sound at c.requires ∙ column-at w.full.leases _ in
    let is-slot = c.slot_at-slot.ensures.0 in
    let count = c.saturating_add-count.result in
    let again : count ≡ sat32 (get_or (leases_in u) at nil).deliveries 1 = rw (one, ← is-slot) c.saturating_add-count.ensures in
    rw c.granted.ensures (claimed u w.sound c.args.worker c.args.offset c.args.now (rw (h.is, one, ← is-slot) (le-ltb _ _ c.if-now-deadlines.false)) c.if-generation-eq-MAX.false
    (rw h.is) (fits (goal.at.returns c).Start) count (count-again u c.args.offset at count h again)
    (granted-again u w c.args.worker c.args.offset at c.args.now count _ (ap (λ (k : ℕ). lease c.args.generation c.args.now k count c.args.worker) c.deadline.ensures) h again _ _ _ _ _
    (column-set u.generations u.attempt_starts u.deadlines u.deliveries u.workers c.slot_at-slot.result c.args.generation c.args.now c.deadline.result count c.args.worker
    ∙ ap (λ (k : ℕ). set (stored_in u) k (lease c.args.generation c.args.now c.deadline.result count c.args.worker)) is-slot)))
