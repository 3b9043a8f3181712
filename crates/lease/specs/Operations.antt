-- Claims, acks, extensions and nacks of leases (lease.rs): each a refusal table and
-- an effect.
-- SPEC.md, "Leases".
use Rattle.std.specs.Prelude.{ℕ, ◌+◌, min, Bool, true, false, not, ◌&&◌, List, [], ◌∷◌, ltb, leb, eqb, length}
use Rattle.std.proofs.Math.Option.{Option, none, some, get_or}
use Rattle.types.specs.Limits.{MAX, LEASES, sat32, sat64}
use Rattle.types.specs.Refusal.{done, InFlight, Fenced, Exhausted, Full, CapReached}
use Rattle.types.specs.Table.{Row, ◌⇒◌, Answer, answer, guarded}
use Rattle.types.specs.Keyed.{Entry, lookup, put, update, delete}
pub use Rattle.redeliveries.specs.Counter.{after_grant}
use Rattle.lease.specs.State.{Table, with_leases}
use Rattle.lease.specs.declared.LeaseConfig.{LeaseConfig}
use Rattle.lease.specs.declared.Lease.{Lease}

-- ## one lease
-- its generation, when its attempt began, its deadline, how often it was handed out, and the worker who claimed it
abbrev pub lease : ℕ → ℕ → ℕ → ℕ → ℕ → Lease
lease g start deadline n w = record { generation = record { 0 = g }; attempt_start = start; deadline = deadline; deliveries = n; worker = w }

-- the lease of an offset
abbrev pub lease_of : Table → ℕ → Option Lease
lease_of t o = lookup o t.leases

-- there is none
abbrev pub is_none : {A : Type 0} → Option A → Bool
is_none none = true
is_none (some a) = false

-- a lease runs before its deadline, and is expired at the deadline itself
abbrev pub running : Option Lease → ℕ → Bool
running none now = false
running (some l) now = ltb now l.deadline

-- a token's generation is that of the lease
abbrev pub owns : Option Lease → ℕ → Bool
owns none g = false
owns (some l) g = eqb l.generation.0 g

-- the end of an attempt that began at `start`, however often it is extended
abbrev pub cap_from : LeaseConfig → ℕ → ℕ
cap_from c start = sat64 start c.hard_cap_nanos

-- one visibility window from now, within that end
abbrev pub deadline_from : LeaseConfig → ℕ → ℕ → ℕ
deadline_from c start now = min (sat64 now c.visibility_nanos) (cap_from c start)

-- ## claim
-- how often an offset was handed out before: as its lease says, or else its carried count
abbrev pub times_handed_out : Option Lease → Option ℕ → ℕ
times_handed_out (some l) c = l.deliveries
times_handed_out none c = get_or c 0

-- the count of the next hand-out
abbrev pub next_count : Table → ℕ → ℕ
next_count t o = sat32 (times_handed_out (lease_of t o) (lookup o t.carried)) 1

-- a first lease takes its offset's count over from the carried ones
abbrev pub consumed : Option Lease → ℕ → List (Entry ℕ) → List (Entry ℕ)
consumed (some l) o c = c
consumed none o c = delete o c

-- the offset leased anew by worker w under the next generation, the attempt beginning now
abbrev pub grant : Table → ℕ → ℕ → ℕ → Table
grant t w o now =
    record {
      config = t.config;
      leases = put o (lease t.next_generation now (deadline_from t.config now now) (next_count t o) w) t.leases;
      carried = consumed (lease_of t o) o t.carried;
      next_generation = t.next_generation + 1;
      redeliveries = after_grant t.redeliveries (next_count t o);
    }

-- what a granted claim answers: the token and the count
pub record Grant : Type 0 where
  pub offset : ℕ
  pub generation : ℕ
  pub deliveries : ℕ

-- of offset, generation and count
abbrev pub grant_of : ℕ → ℕ → ℕ → Grant
grant_of o g n = record { offset = o; generation = g; deliveries = n }

-- the answer of the next grant
abbrev pub granted : Table → ℕ → Grant
granted t o = grant_of o t.next_generation (next_count t o)

-- 23, 25, 27
abbrev pub claim_rows : Table → ℕ → ℕ → List Row
claim_rows t o now =
    running (lease_of t o) now ⇒ InFlight ∷
    eqb t.next_generation MAX ⇒ Exhausted ∷
    (is_none (lease_of t o) && leb LEASES (length t.leases)) ⇒ Full ∷ []

-- a claim of offset o by worker w
unfoldable pub claim : Table → ℕ → ℕ → ℕ → Answer Grant Table
claim t w o now = guarded (claim_rows t o now) t (answer (done (granted t o)) (grant t w o now))

-- ## calls with a token, of offset o and generation g
-- the row that all of them begin with, over the lease of the offset: 24
abbrev pub fenced_row : Option Lease → ℕ → Row
fenced_row l g = not (owns l g) ⇒ Fenced

abbrev pub token_row : Table → ℕ → ℕ → Row
token_row t o g = fenced_row (lease_of t o) g

-- an ack: the lease is gone
unfoldable pub ack : Table → ℕ → ℕ → Answer (Unit {0}) Table
ack t o g = guarded (token_row t o g ∷ []) t (answer (done tt) (with_leases t (delete o t.leases)))

-- when the attempt of a lease began
abbrev pub start_of : Option Lease → ℕ
start_of none = 0
start_of (some l) = l.attempt_start

-- a lease with another deadline
abbrev pub with_deadline : ℕ → Lease → Lease
with_deadline deadline l = lease l.generation.0 l.attempt_start deadline l.deliveries l.worker

-- over the lease: 24, 28
abbrev pub extension_rows : LeaseConfig → Option Lease → ℕ → ℕ → List Row
extension_rows c l g now = fenced_row l g ∷ leb (cap_from c (start_of l)) now ⇒ CapReached ∷ []

abbrev pub extend_rows : Table → ℕ → ℕ → ℕ → List Row
extend_rows t o g now = extension_rows t.config (lease_of t o) g now

-- the deadline of an extended lease
abbrev pub extended : Table → ℕ → ℕ → ℕ
extended t o now = deadline_from t.config (start_of (lease_of t o)) now

-- an extension, with that deadline as its answer
unfoldable pub extend : Table → ℕ → ℕ → ℕ → Answer ℕ Table
extend t o g now =
    guarded (extend_rows t o g now) t
    (answer (done (extended t o now)) (with_leases t (update o (with_deadline (extended t o now)) t.leases)))

-- a lease given up until a deadline: a new generation fences its holder; the count and the worker stay
abbrev pub requeued_as : ℕ → ℕ → Lease → Lease
requeued_as g deadline l = lease g l.attempt_start deadline l.deliveries l.worker

-- the table with it
abbrev pub requeue : Table → ℕ → ℕ → Table
requeue t o deadline =
    record {
      config = t.config;
      leases = update o (requeued_as t.next_generation deadline) t.leases;
      carried = t.carried;
      next_generation = t.next_generation + 1;
      redeliveries = t.redeliveries;
    }

-- over the lease and the next generation: 24, 25
abbrev pub requeue_rows : Option Lease → ℕ → ℕ → List Row
requeue_rows l g next = fenced_row l g ∷ eqb next MAX ⇒ Exhausted ∷ []

abbrev pub nack_rows : Table → ℕ → ℕ → List Row
nack_rows t o g = requeue_rows (lease_of t o) g t.next_generation

-- a nack, with the deadline as its answer, which no cap bounds
unfoldable pub nack : Table → ℕ → ℕ → ℕ → ℕ → Answer ℕ Table
nack t o g now delay = guarded (nack_rows t o g) t (answer (done (sat64 now delay)) (requeue t o (sat64 now delay)))
