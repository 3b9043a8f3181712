-- The calls that change a consumer's state without writing: claim, Ack, Term, Nack, Progress and Commit, each
-- made by a worker: a refusal table and an effect.
-- SPEC.md, "Calls".
use Rattle.std.specs.Prelude.{ℕ, ◌+◌, Bool, true, false, not, cond, ◌&&◌, ◌||◌, List, [], ◌∷◌, ◌++◌, leb, eqb, length}
use Rattle.std.proofs.Math.Option.{Option, none, some}
use Rattle.types.specs.Limits.{MAX, LEASES, CARRIED, RANGES, sat64}
use Rattle.types.specs.Refusal.{Result, refused, done, LastOffset, Settled, Closed, InFlight, Exhausted, CheckpointDue, Full, CapReached, Shed, ForeignToken}
use Rattle.types.specs.Table.{Row, ◌⇒◌, Answer, answer, guarded}
use Rattle.types.specs.Keyed.{lookup, update, delete}
use Rattle.cursor.specs.Cursor.{settled, ackBounded, commit_up_to}
use Rattle.delivery.specs.Policy.{Destination, disposition, effective_nack_delay}
use Rattle.hours.specs.Hours.{isOpen, next_opening}
use Rattle.lease.specs.State.{Table, with_leases}
use Rattle.lease.specs.declared.Lease.{Lease}
use Rattle.lease.specs.Operations.{lease_of, is_none, running, cap_from, next_count, grant, token_row, start_of, with_deadline, extended, requeue}
use Rattle.lease.specs.Rest.{release_below, deliveries_of}
use Rattle.consumer.specs.State.{State, with_table, with_both, count_or0}
use Rattle.consumer.specs.Rights.{Operation, claiming, settling, nacking, extending, committing, bit_of, worker_rows}

-- ## rows that several tables begin with
-- in front of all that a call of worker w could answer or refuse: 38, 39
abbrev pub call_rows : State → ℕ → Operation → List Row
call_rows s w op = worker_rows s.settings.rights w (bit_of op)

-- a worker claimed the lease
abbrev pub held_by : ℕ → Option Lease → Bool
held_by w none = false
held_by w (some l) = eqb l.worker w

-- in front of what a call with a token could answer or refuse, of offset o and generation g: 38, 39, 24, 40
abbrev pub token_rows : State → ℕ → Operation → ℕ → ℕ → List Row
token_rows s w op o g =
    call_rows s w op ++ (token_row s.table o g ∷ not (held_by w (lease_of s.table o)) ⇒ ForeignToken ∷ [])

-- ## claim
-- a hand-out: the token, the count with this hand-out in it, and whether it is for delivery or for the dead letters
pub record HandOut : Type 0 where
  pub offset : ℕ
  pub generation : ℕ
  pub deliveries : ℕ
  pub destination : Destination

-- what a claim of o hands out
abbrev pub hand_out : State → ℕ → HandOut
hand_out s o =
    record {
      offset = o;
      generation = s.table.next_generation;
      deliveries = next_count s.table o;
      destination = disposition s.settings.policy (next_count s.table o);
    }

-- no generation below the ceiling is left
abbrev pub at_ceiling : State → Bool
at_ceiling s = leb s.ceiling s.table.next_generation

-- redeliveries since the last flush have reached the threshold
abbrev pub at_threshold : State → Bool
at_threshold s = leb s.settings.policy.flush_redeliveries s.table.redeliveries

-- the offset has no lease and there are 64, or it has no count either and leases and counts together are 128
abbrev pub is_full : Table → ℕ → Bool
is_full t o =
    is_none (lease_of t o)
    && (leb LEASES (length t.leases)
    || (is_none (lookup o t.carried) && leb CARRIED (length t.leases + length t.carried)))

-- 21, 22, 35, 23, 25, 26 with both of its conditions, 27
abbrev pub claim_rows : State → ℕ → ℕ → List Row
claim_rows s o now =
    eqb o MAX ⇒ LastOffset
    ∷ settled s.cursor o ⇒ Settled
    ∷ not (isOpen s.settings.hours now) ⇒ Closed (next_opening s.settings.hours now)
    ∷ running (lease_of s.table o) now ⇒ InFlight
    ∷ eqb s.table.next_generation MAX ⇒ Exhausted
    ∷ (at_ceiling s || at_threshold s) ⇒ CheckpointDue
    ∷ is_full s.table o ⇒ Full
    ∷ []

abbrev pub claim_table : State → ℕ → ℕ → ℕ → List Row
claim_table s w o now = call_rows s w claiming ++ claim_rows s o now

-- the offset is leased to the worker under the next generation, with its carried count if it had one
abbrev pub claimed : State → ℕ → ℕ → ℕ → State
claimed s w o now = with_table s (grant s.table w o now)

unfoldable pub claim : State → ℕ → ℕ → ℕ → Answer HandOut State
claim s w o now = guarded (claim_table s w o now) s (answer (done (hand_out s o)) (claimed s w o now))

-- ## calls with a token, of offset o and generation g
-- the cursor has no room for the ack
abbrev pub is_shed : Result Bool → Bool
is_shed (refused r) = true
is_shed (done b) = false

-- 29
abbrev pub ack_rows : State → ℕ → List Row
ack_rows s o = is_shed (ackBounded s.cursor o RANGES).outcome ⇒ Shed ∷ []

abbrev pub ack_table : State → ℕ → ℕ → ℕ → List Row
ack_table s w o g = token_rows s w settling o g ++ ack_rows s o

-- Ack and Term: the lease goes and the offset is settled
abbrev pub acked : State → ℕ → State
acked s o =
    with_both s (ackBounded s.cursor o RANGES).state (with_leases s.table (delete o s.table.leases))

unfoldable pub ack : State → ℕ → ℕ → ℕ → Answer (Unit {0}) State
ack s w o g = guarded (ack_table s w o g) s (answer (done tt) (acked s o))

-- how often the leased offset was handed out, which a nack takes as its attempt
abbrev pub attempt_of : State → ℕ → ℕ
attempt_of s o = count_or0 (deliveries_of (lease_of s.table o))

-- how long a nacked offset waits, at most the hard cap (SPEC.md, "Nack")
abbrev pub nack_delay : State → ℕ → Option ℕ → ℕ
nack_delay s o explicit = effective_nack_delay s.settings.policy (attempt_of s o) explicit s.table.config.hard_cap_nanos

-- when it can be claimed again: after that delay, or at the next opening where that falls outside the hours (SPEC.md, "Hours")
abbrev pub nack_deadline : State → ℕ → ℕ → Option ℕ → ℕ
nack_deadline s o now explicit = next_opening s.settings.hours (sat64 now (nack_delay s o explicit))

-- 25, 26 for the ceiling alone
abbrev pub nack_rows : State → List Row
nack_rows s = eqb s.table.next_generation MAX ⇒ Exhausted ∷ at_ceiling s ⇒ CheckpointDue ∷ []

abbrev pub nack_table : State → ℕ → ℕ → ℕ → List Row
nack_table s w o g = token_rows s w nacking o g ++ nack_rows s

-- Nack: the lease goes on under the next generation until a deadline, which is the answer; it stays its worker's
abbrev pub nacked : State → ℕ → ℕ → State
nacked s o deadline = with_table s (requeue s.table o deadline)

unfoldable pub nack : State → ℕ → ℕ → ℕ → ℕ → Option ℕ → Answer ℕ State
nack s w o g now explicit =
    guarded (nack_table s w o g) s
    (answer (done (nack_deadline s o now explicit)) (nacked s o (nack_deadline s o now explicit)))

-- the end of the attempt has come, beyond which no lease is extended
abbrev pub at_cap : State → ℕ → ℕ → Bool
at_cap s o now = leb (cap_from s.table.config (start_of (lease_of s.table o))) now

-- 28
abbrev pub progress_rows : State → ℕ → ℕ → List Row
progress_rows s o now = at_cap s o now ⇒ CapReached ∷ []

abbrev pub progress_table : State → ℕ → ℕ → ℕ → ℕ → List Row
progress_table s w o g now = token_rows s w extending o g ++ progress_rows s o now

-- Progress: the lease has a new deadline, which is the answer
abbrev pub progressed : State → ℕ → ℕ → State
progressed s o deadline = with_table s (with_leases s.table (update o (with_deadline deadline) s.table.leases))

unfoldable pub progress : State → ℕ → ℕ → ℕ → ℕ → Answer ℕ State
progress s w o g now =
    guarded (progress_table s w o g now) s
    (answer (done (extended s.table o now)) (progressed s o (extended s.table o now)))

-- ## commit
-- everything below the bound is settled, and no lease and no count stays there
abbrev pub with_committed : State → ℕ → State
with_committed s bound = with_both s (commit_up_to s.cursor bound).state (release_below s.table bound)

-- after the rows of every call: false, which is Unchanged, where the bound is not above committed
unfoldable pub commit : State → ℕ → ℕ → Answer Bool State
commit s w bound =
    guarded (call_rows s w committing) s
    (cond (leb bound s.cursor.committed) (answer (done false) s) (answer (done true) (with_committed s bound)))
