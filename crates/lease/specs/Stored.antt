-- What the private helpers on a table's words read and store. No public contract cites this file.
-- SPEC.md, "Leases".
use Rattle.std.specs.Prelude.{ℕ, ◌+◌, ◌-◌, ◌≡◌, take, get_or, set}
use Rattle.tables.specs.Columns.{put_in, takenOut}
use Rattle.tables.specs.Search.{Boundary, Spans}
use Rattle.tables.specs.Slots.{set_aside}
use Rattle.tables.specs.declared.counts.Span.{Span}
use Rattle.redeliveries.specs.Counter.{after_grant}
use Rattle.lease.specs.Operations.{lease, deadline_from}
use Rattle.lease.specs.Parts.{gathered, leasing, carrying, removing, slot_in}
use Rattle.lease.specs.declared.Lease.{Lease}
use Rattle.lease.specs.declared.LeaseTable.{LeaseTable}
use Rattle.lease.specs.declared.Grant.{Grant}

-- ## a lease
-- the one at a place, and another stored there
abbrev pub held_at : ℕ → LeaseTable → Lease
held_at at t =
    let s = slot_in t.slots at in
    lease (get_or t.generations s 0) (get_or t.attempt_starts s 0) (get_or t.deadlines s 0) (get_or t.deliveries s 0) (get_or t.workers s 0)

abbrev pub holding : ℕ → Lease → LeaseTable → LeaseTable
holding at l t =
    let s = slot_in t.slots at in
    leasing t.len t.offsets t.slots (set t.generations s l.generation.0) (set t.attempt_starts s l.attempt_start)
    (set t.deadlines s l.deadline) (set t.deliveries s l.deliveries) (set t.workers s l.worker) t

-- other numbers: the next generation, and the redeliveries
abbrev pub numbered : ℕ → ℕ → LeaseTable → LeaseTable
numbered g r t =
    gathered t.config t.len t.carried_len g r t.offsets t.slots t.generations t.attempt_starts t.deadlines t.deliveries t.workers
    t.carried_offsets t.carried_counts

-- ## a grant to worker w for the d-th time
-- the lease stored at a place, the generation taken and the redelivery counted; and what it answers for offset o
abbrev pub granting : ℕ → ℕ → ℕ → ℕ → LeaseTable → LeaseTable
granting at w now d t =
    numbered (t.next_generation.0 + 1) (after_grant t.redeliveries_since_flush d)
    (holding at (lease t.next_generation.0 now (deadline_from t.config now now) d w) t)

abbrev pub handed_out : ℕ → ℕ → LeaseTable → Grant
handed_out o d t = record { token = record { offset = record { 0 = o }; generation = t.next_generation }; deliveries = d }

-- ## an offset
-- put in at a place, with the first slot that was free
abbrev pub placing : ℕ → ℕ → LeaseTable → LeaseTable
placing at o t =
    leasing (t.len + 1) (put_in t.len at o t.offsets) (put_in t.len at (get_or t.slots t.len 0) t.slots)
    t.generations t.attempt_starts t.deadlines t.deliveries t.workers t

-- the one at a place taken out, its slot behind those in use
abbrev pub displacing : ℕ → LeaseTable → LeaseTable
displacing at t =
    removing (t.len - 1) (takenOut t.len at (at + 1) t.offsets) (set (takenOut t.len at (at + 1) t.slots) (t.len - 1) (get_or t.slots at 0)) t

-- ## carried counts
-- those of some places taken out
abbrev pub passing : Span → LeaseTable → LeaseTable
passing c t =
    carrying (t.carried_len - (c.to - c.from)) (takenOut t.carried_len c.from c.to t.carried_offsets)
    (takenOut t.carried_len c.from c.to t.carried_counts) t

-- that of an offset, 0 where it has none
pub record Passes (o count : ℕ) (t after : LeaseTable) : Type 0 where
  pub span : Span
  pub spans : Spans o (take t.carried_len t.carried_offsets) t.carried_counts span
  pub counts : count ≡ span.count
  pub is : after ≡ passing span t

-- ## released below a bound: the places before one that was found
pub record CountsReleased (b : ℕ) (t after : LeaseTable) : Type 0 where
  pub to : ℕ
  pub at : Boundary b (take t.carried_len t.carried_offsets) to
  pub is : after ≡ passing (record { from = 0; to = to; count = 0 }) t

pub record LeasesReleased (b : ℕ) (t after : LeaseTable) : Type 0 where
  pub to : ℕ
  pub at : Boundary b (take t.len t.offsets) to
  pub is : after ≡ removing (t.len - to) (takenOut t.len 0 to t.offsets) (set_aside t.len 0 to t.slots) t
