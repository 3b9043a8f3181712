-- `claim_first` meets its contract: that of `LeaseTable::claim`, where the offset has no lease.
-- Assumes nothing.
-- the table that the arguments are
use Prim.Native.Nat.{ℕ, ◌≤◌, ◌<◌}
use native.Mathlib.Omega.{arith}
use mathlib.Core.Path.{refl, ap, ◌∙◌}
use lib.ListN.{take, set}
use Rattle.types.specs.Limits.{MAX, LEASES}
use Rattle.tables.specs.Search.{Spans}
use Rattle.tables.specs.declared.counts.Span.{Span}
use Rattle.tables.proofs.Columns.{put_in_front, taken-out-front}
use Rattle.tables.proofs.Places.{Spanned}
use Rattle.lease.specs.State.{stored_in}
use Rattle.lease.specs.Operations.{lease}
use Rattle.lease.specs.Parts.{gathered}
use Rattle.lease.specs.declared.LeaseTable.{LeaseTable}
use Rattle.lease.proofs.Bounds.{within}
use Rattle.lease.proofs.Leases.{column-set}
use Rattle.lease.proofs.Slots.{Free, free, in_flight_lem, carried-span}
use Rattle.lease.proofs.Claims.{claim_exhausted, claim-full, claimed, room-first, count-first, granted-first}
use Rattle.lease.proofs.in_place.claim_first.Goals as goal
use Rattle.lease.proofs.in_place.claim_first.Goals.{Start}

abbrev table : Start → LeaseTable
table s =
    gathered s.args.config s.args.len s.args.carried_len s.args.next s.args.redeliveries
    s.args.offsets.now s.args.slots.now s.args.generations.now s.args.attempt_starts.now s.args.deadlines.now s.args.deliveries.now s.args.workers.now s.args.carried_offsets.now s.args.carried_counts.now

fits : (s : Start) → s.args.offset ≤ MAX
fits s = omega arith

-- there was no lease
lacked : (s : Start) → Free (table s) s.args.offset s.args.at
lacked s = free (table s) s.requires.0.full s.requires.0.sound s.requires.1 refl

-- the places of its carried count
prior : (s : Start) (r : Span) → Spans s.args.offset (take s.args.carried_len s.args.carried_offsets.now) s.args.carried_counts.now r
    → Spanned s.args.carried_len s.args.carried_offsets.now s.args.carried_counts.now s.args.offset r
prior s r h = carried-span (table s) s.requires.0.full s.requires.0.sound h

pub returns-then-next-eq-MAX : goal.returns-then-next-eq-MAX
returns-then-next-eq-MAX c =
    claim_exhausted (table (goal.at.returns-then-next-eq-MAX c).Start) c.requires.0.sound c.args.worker c.args.offset c.args.now (rw (lacked (goal.at.returns-then-next-eq-MAX c).Start).is) c.if-next-eq-MAX.true

pub returns-then-len-ge-LEASES : goal.returns-then-len-ge-LEASES
returns-then-len-ge-LEASES c =
    let ok = c.requires.0.sound in
    claim-full (table (goal.at.returns-then-len-ge-LEASES c).Start) ok c.args.worker c.args.offset c.args.now (rw (lacked (goal.at.returns-then-len-ge-LEASES c).Start).is) c.if-next-eq-MAX.false (lacked (goal.at.returns-then-len-ge-LEASES c).Start).is (rw (in_flight_lem (table (goal.at.returns-then-len-ge-LEASES c).Start) c.requires.0.full ok) c.if-len-ge-LEASES.true)

pub returns : goal.returns
returns c =
    let t = table (goal.at.returns c).Start in
    let at = c.args.at in
    let h = lacked (goal.at.returns c).Start in
    let f = c.requires.0.full in
    let ok = c.requires.0.sound in
    let q = prior (goal.at.returns c).Start c.count_of-prior.result c.count_of-prior.ensures in
    let count = c.saturating_add-count.result in
    let deadline = c.deadline-deadline.result in
    let few : t.len < LEASES = c.if-len-ge-LEASES.false in
    rw c.granted.ensures (claimed t ok c.args.worker c.args.offset c.args.now (rw h.is) c.if-next-eq-MAX.false
    (room-first t c.args.offset at h (in_flight_lem t f ok) few) (fits (goal.at.returns c).Start) count
    (count-first t c.args.offset at count h c.count_of-prior.result q c.saturating_add-count.ensures)
    (granted-first t c.requires.0 c.args.worker c.args.offset at c.args.now count _ (ap (λ (k : ℕ). lease c.args.next c.args.now k count c.args.worker) c.deadline-deadline.ensures)
    h few c.count_of-prior.result q c.saturating_add-count.ensures
    c.insert.new.column c.insert-2.new.column _ _ _ _ _ c.remove.new.column c.remove-2.new.column
    (put_in_front t.len at c.args.offset t.offsets h.inside (rw f.offsets few) c.insert.ensures)
    c.insert-2.ensures
    (column-set t.generations t.attempt_starts t.deadlines t.deliveries t.workers c.slot_at-free.result c.args.next c.args.now deadline count c.args.worker
    ∙ ap (λ (k : ℕ). set (stored_in t) k (lease c.args.next c.args.now deadline count c.args.worker)) c.slot_at-free.ensures.0)
    (taken-out-front t.carried_len c.count_of-prior.result.from c.count_of-prior.result.to t.carried_offsets q.order q.inside (within f.carried-offsets ok.carried-len) c.remove.ensures)
    (taken-out-front t.carried_len c.count_of-prior.result.from c.count_of-prior.result.to t.carried_counts q.order q.inside (within f.carried-counts ok.carried-len) c.remove-2.ensures)))
