-- The rest of lease.rs: leases released, resealed, deferred and shifted, and the questions that change nothing.
-- SPEC.md, "Leases".
use Rattle.std.specs.Prelude.{ℕ, Bool, true, false, cond, not, ◌&&◌, List, [], ◌∷◌, length}
use Rattle.std.proofs.Math.Option.{Option, none, some, map}
use Rattle.types.specs.Limits.{sat64}
use Rattle.types.specs.Refusal.{done}
use Rattle.types.specs.Table.{Answer, answer}
use Rattle.types.specs.Keyed.{Entry, update, drop_below, map_values}
use Rattle.redeliveries.specs.Counter.{after_flush}
use Rattle.lease.specs.State.{Table, with_leases}
use Rattle.lease.specs.Operations.{lease, lease_of, is_none, running, owns, with_deadline}
use Rattle.lease.specs.declared.Lease.{Lease}

-- ## changes
-- the counts made durable
abbrev pub attempts_flushed : Table → Table
attempts_flushed t = record { config = t.config; leases = t.leases; carried = t.carried; next_generation = t.next_generation; redeliveries = after_flush t.redeliveries }

-- without the leases and the carried counts below a bound
abbrev pub release_below : Table → ℕ → Table
release_below t b = record { config = t.config; leases = drop_below b t.leases; carried = drop_below b t.carried; next_generation = t.next_generation; redeliveries = t.redeliveries }

-- a lease under another generation
abbrev pub resealed_as : ℕ → Lease → Lease
resealed_as g l = lease g l.attempt_start l.deadline l.deliveries l.worker

-- the lease of an offset under another generation, if it has the one that the caller claimed it under; the answer says
-- whether it had
unfoldable pub reseal_from_to : Table → ℕ → ℕ → ℕ → Answer Bool Table
reseal_from_to t o from to =
    cond (owns (lease_of t o) from)
    (answer (done true) (with_leases t (update o (resealed_as to) t.leases)))
    (answer (done false) t)

-- a lease that is there and expired
abbrev pub is_expired : Option Lease → ℕ → Bool
is_expired l now = not (is_none l) && not (running l now)

-- an expired lease put off by a delay, which no cap bounds; the answer says whether there was one
unfoldable pub defer_redelivery : Table → ℕ → ℕ → ℕ → Answer Bool Table
defer_redelivery t o now delay =
    cond (is_expired (lease_of t o) now)
    (answer (done true) (with_leases t (update o (with_deadline (sat64 now delay)) t.leases)))
    (answer (done false) t)

-- a lease with its clock forward
abbrev pub shifted_by : ℕ → Lease → Lease
shifted_by delta l = lease l.generation.0 (sat64 l.attempt_start delta) (sat64 l.deadline delta) l.deliveries l.worker

-- every lease's clock forward, its deadline and the start of its attempt
abbrev pub shift_deadlines : Table → ℕ → Table
shift_deadlines t delta = with_leases t (map_values (shifted_by delta) t.leases)

-- ## questions
-- how many leases there are, expired or not
abbrev pub in_flight : Table → ℕ
in_flight t = length t.leases

-- no lease of the offset still runs
abbrev pub is_claimable : Table → ℕ → ℕ → Bool
is_claimable t o now = not (running (lease_of t o) now)

-- the count of a lease
abbrev pub deliveries_of : Option Lease → Option ℕ
deliveries_of l = map (λ (x : Lease). x.deliveries) l

-- the worker who claimed a lease
abbrev pub holder_of : Option Lease → Option ℕ
holder_of l = map (λ (x : Lease). x.worker) l

-- the count of the lease that a token owns
abbrev pub deliveries : Table → ℕ → ℕ → Option ℕ
deliveries t o g = cond (owns (lease_of t o) g) (deliveries_of (lease_of t o)) none

-- the count of a lease, and the worker who claimed it
abbrev pub hold_of : Option Lease → Option (ℕ × ℕ)
hold_of l = map (λ (x : Lease). (x.deliveries, x.worker)) l

-- those of the lease that a token owns
abbrev pub hold : Table → ℕ → ℕ → Option (ℕ × ℕ)
hold t o g = cond (owns (lease_of t o) g) (hold_of (lease_of t o)) none

-- a token owns a lease that still runs
abbrev pub holds_active : Table → ℕ → ℕ → ℕ → Bool
holds_active t o g now = owns (lease_of t o) g && running (lease_of t o) now

-- the count of a lease that the next claim would redeliver
abbrev pub pending_redelivery_attempt : Table → ℕ → ℕ → Option ℕ
pending_redelivery_attempt t o now = cond (is_expired (lease_of t o) now) (deliveries_of (lease_of t o)) none

-- the offsets of expired leases, in their order
abbrev pub expired_offsets : ℕ → List (Entry Lease) → List ℕ
expired_offsets now [] = []
expired_offsets now (e ∷ l) = cond (running (some e.value) now) (expired_offsets now l) (e.key ∷ expired_offsets now l)

-- those of a table, rising
abbrev pub expired : Table → ℕ → List ℕ
expired t now = expired_offsets now t.leases
