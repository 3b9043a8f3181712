-- What the refusal table of each call says where none of its tests holds, by name, and every answer of each: a refusal, which keeps
-- the state, or the effect with these facts. A row more in a table is a field more here and moves nothing else. Assumes nothing.
use Prim.Native.Nat.{ℕ, ◌+◌, ◌≤◌, ◌<◌}
use mathlib.Core.Path.{◌≡◌, refl, ◌∙◌}
use mathlib.Core.Bool.{Bool, true, false, not, ◌&&◌, true≢false}
use mathlib.Core.List.{[], ◌∷◌}
use mathlib.Core.Option.{Option, none, some}
use lib.Dec.{leb}
use lib.ListN.{length}
use borrow.Author.Tests.{leb-true, leb-false, lt-leb, eqb-true, eqb-false, not-false}
use Rattle.types.specs.Limits.{MAX, LEASES, CARRIED, RANGES, WORKERS}
use Rattle.types.specs.Refusal.{Refusal, refused, done, Fenced, ForeignToken}
use Rattle.types.specs.Table.{Row, ◌⇒◌, first, Passed, Answer, answer}
use Rattle.types.specs.Keyed.{lookup}
use Rattle.types.proofs.Cases.{split, neither}
use Rattle.types.proofs.Table.{first-met, first_none_before, passed_none, guarded_cases, passed-append, append-passed}
use Rattle.cursor.specs.Cursor.{settled, ackBounded}
use Rattle.hours.specs.Hours.{isOpen}
use Rattle.lease.specs.declared.Lease.{Lease}
use Rattle.lease.specs.State.{Table}
use Rattle.lease.specs.Operations.{lease_of, is_none, running, owns, token_row, cap_from, start_of, extended}
use Rattle.consumer.specs.State.{State}
use Rattle.consumer.specs.Rights.{Operation, claiming, settling, nacking, extending, committing, bit_of, permits}
use Rattle.consumer.specs.Calls.{call_rows, held_by, token_rows, HandOut, hand_out, at_ceiling, at_threshold, is_full, claim_rows, claim_table, claimed, claim, is_shed, ack_rows, ack_table, acked, ack, nack_deadline, nack_rows, nack_table, nacked, nack, progress_rows, progress_table, progressed, progress, with_committed, commit}

-- ## rows in front of every call
-- the worker is one of the eight, and has the right
pub record Allowed (s : State) (w : ℕ) (op : Operation) : Type 0 where
  pub known : w < WORKERS
  pub permitted : permits s.settings.rights w (bit_of op) ≡ true

module _ (s : State) (w : ℕ) (op : Operation) where
  pub call_open : Passed (call_rows s w op) → Allowed s w op
  call_open p = record { known = leb-false WORKERS w p.0; permitted = not-false _ p.1.0 }

  pub call-passed : Allowed s w op → Passed (call_rows s w op)
  call-passed a = (lt-leb WORKERS w a.known, (rw a.permitted, tt))

-- ## claim
pub record ClaimOpen (s : State) (w o now : ℕ) : Type 0 where
  pub allowed : Allowed s w claiming
  pub not_last : o ≡ MAX → ⊥
  pub unsettled : settled s.cursor o ≡ false
  pub in-hours : isOpen s.settings.hours now ≡ true
  pub not-running : running (lease_of s.table o) now ≡ false
  pub generation-left : s.table.next_generation ≡ MAX → ⊥
  pub below-ceiling : s.table.next_generation < s.ceiling
  pub below-threshold : s.table.redeliveries < s.settings.policy.flush_redeliveries
  pub lease-room : lease_of s.table o ≡ none → length s.table.leases < LEASES
  pub count_room : lease_of s.table o ≡ none → lookup o s.table.carried ≡ none
      → length s.table.leases + length s.table.carried < CARRIED

module _ (t : Table) (o : ℕ) (full : is_full t o ≡ false) (no-lease : lease_of t o ≡ none) where
  rooms : (leb LEASES (length t.leases) ≡ false)
      × ((is_none (lookup o t.carried) && leb CARRIED (length t.leases + length t.carried)) ≡ false)
  rooms = neither (leb LEASES (length t.leases)) _ (rw no-lease at full)

  room_for_lease : length t.leases < LEASES
  room_for_lease = leb-false LEASES (length t.leases) rooms.0

  room_for_count : lookup o t.carried ≡ none → length t.leases + length t.carried < CARRIED
  room_for_count no-count = leb-false CARRIED (length t.leases + length t.carried) (rw no-count at rooms.1)

pub claim_open : (s : State) (w o now : ℕ) → Passed (claim_table s w o now) → ClaimOpen s w o now
claim_open s w o now p =
    let rows = passed-append (call_rows s w claiming) (claim_rows s o now) p in
    let own = rows.1 in
    let table = own.1.1.1 in
    let below = neither (at_ceiling s) (at_threshold s) table.1.1.0 in
    let full = table.1.1.1.0 in
    record {
      allowed = call_open s w claiming rows.0;
      not_last = eqb-false o MAX own.0;
      unsettled = own.1.0;
      in-hours = not-false _ own.1.1.0;
      not-running = table.0;
      generation-left = eqb-false s.table.next_generation MAX table.1.0;
      below-ceiling = leb-false s.ceiling s.table.next_generation below.0;
      below-threshold = leb-false s.settings.policy.flush_redeliveries s.table.redeliveries below.1;
      lease-room = room_for_lease s.table o full;
      count_room = room_for_count s.table o full;
    }

pub claim_cases : (s : State) (w o now : ℕ) (P : Answer HandOut State → Type 0)
    → ((r : Refusal) → P (answer (refused r) s))
    → (ClaimOpen s w o now → P (answer (done (hand_out s o)) (claimed s w o now)))
    → P (claim s w o now)
unfolding claim
claim_cases s w o now P refusal effect =
    guarded_cases (claim_table s w o now) s _ P (λ r e. refusal r) (λ p. effect (claim_open s w o now p))

-- ## calls with a token
-- the lease that the token owns, which the worker claimed
pub record Owned (t : Table) (w o g : ℕ) : Type 0 where
  pub lease : Lease
  pub held : lease_of t o ≡ some lease
  pub generation : lease.generation.0 ≡ g
  pub worker : lease.worker ≡ w

pub owned : (t : Table) (w o g : ℕ) → (token_row t o g).test ≡ false → held_by w (lease_of t o) ≡ true → Owned t w o g
owned t w o g = go (lease_of t o) refl
  where
    go : (x : Option Lease) → lease_of t o ≡ x → not (owns x g) ≡ false → held_by w x ≡ true → Owned t w o g
    go none q e h = absurd (true≢false e)
    go (some l) q e h =
        record { lease = l; held = q; generation = eqb-true l.generation.0 g (not-false _ e); worker = eqb-true l.worker w h }

-- the token's rows, by what the table says of the token
module _ (s : State) (w : ℕ) (op : Operation) (o g : ℕ) where
  abbrev foreign : Row
  foreign = not (held_by w (lease_of s.table o)) ⇒ ForeignToken

  module _ (a : Allowed s w op) where
    pub token-refused : (token_row s.table o g).test ≡ true → first (token_rows s w op o g) ≡ some Fenced
    token-refused = first-met (call_rows s w op) (foreign ∷ []) (token_row s.table o g) (call-passed s w op a)

    pub token-foreign : (token_row s.table o g).test ≡ false → held_by w (lease_of s.table o) ≡ false
        → first (token_rows s w op o g) ≡ some ForeignToken
    token-foreign q h =
        first_none_before (call_rows s w op) (token_row s.table o g ∷ foreign ∷ []) (passed_none (call_rows s w op) (call-passed s w op a))
        ∙ rw (q, h)

    pub token-passed : (token_row s.table o g).test ≡ false → held_by w (lease_of s.table o) ≡ true → Passed (token_rows s w op o g)
    token-passed q h =
        append-passed (call_rows s w op) (token_row s.table o g ∷ foreign ∷ []) (call-passed s w op a) (q, (rw h, tt))

  -- what they say where none of them is met
  pub record TokenOpen : Type 0 where
    pub allowed : Allowed s w op
    pub not_fenced : (token_row s.table o g).test ≡ false
    pub own : held_by w (lease_of s.table o) ≡ true

  pub token_open : Passed (token_rows s w op o g) → TokenOpen
  token_open p =
      let rows = passed-append (call_rows s w op) (token_row s.table o g ∷ foreign ∷ []) p in
      record { allowed = call_open s w op rows.0; not_fenced = rows.1.0; own = not-false _ rows.1.1.0 }

  pub token-owned : TokenOpen → Owned s.table w o g
  token-owned p = owned s.table w o g p.not_fenced p.own

pub record AckOpen (s : State) (w o g : ℕ) : Type 0 where
  pub allowed : Allowed s w settling
  pub token : Owned s.table w o g
  pub not_shed : is_shed (ackBounded s.cursor o RANGES).outcome ≡ false

pub ack_open : (s : State) (w o g : ℕ) → Passed (ack_table s w o g) → AckOpen s w o g
ack_open s w o g p =
    let rows = passed-append (token_rows s w settling o g) (ack_rows s o) p in
    let front = token_open s w settling o g rows.0 in
    record { allowed = front.allowed; token = token-owned s w settling o g front; not_shed = rows.1.0 }

pub ack_cases : (s : State) (w o g : ℕ) (P : Answer (Unit {0}) State → Type 0)
    → ((r : Refusal) → P (answer (refused r) s))
    → (AckOpen s w o g → P (answer (done tt) (acked s o)))
    → P (ack s w o g)
unfolding ack
ack_cases s w o g P refusal effect =
    guarded_cases (ack_table s w o g) s _ P (λ r e. refusal r) (λ p. effect (ack_open s w o g p))

pub record NackOpen (s : State) (w o g : ℕ) : Type 0 where
  pub allowed : Allowed s w nacking
  pub token : Owned s.table w o g
  pub generation-left : s.table.next_generation ≡ MAX → ⊥
  pub below-ceiling : s.table.next_generation < s.ceiling

pub nack_open : (s : State) (w o g : ℕ) → Passed (nack_table s w o g) → NackOpen s w o g
nack_open s w o g p =
    let rows = passed-append (token_rows s w nacking o g) (nack_rows s) p in
    let front = token_open s w nacking o g rows.0 in
    record {
      allowed = front.allowed;
      token = token-owned s w nacking o g front;
      generation-left = eqb-false s.table.next_generation MAX rows.1.0;
      below-ceiling = leb-false s.ceiling s.table.next_generation rows.1.1.0;
    }

pub nack_cases : (s : State) (w o g now : ℕ) (d : Option ℕ) (P : Answer ℕ State → Type 0)
    → ((r : Refusal) → P (answer (refused r) s))
    → (NackOpen s w o g → P (answer (done (nack_deadline s o now d)) (nacked s o (nack_deadline s o now d))))
    → P (nack s w o g now d)
unfolding nack
nack_cases s w o g now d P refusal effect =
    guarded_cases (nack_table s w o g) s _ P (λ r e. refusal r) (λ p. effect (nack_open s w o g p))

pub record ProgressOpen (s : State) (w o g now : ℕ) : Type 0 where
  pub allowed : Allowed s w extending
  pub token : Owned s.table w o g
  pub below_cap : now < cap_from s.table.config (start_of (lease_of s.table o))

pub progress_open : (s : State) (w o g now : ℕ) → Passed (progress_table s w o g now) → ProgressOpen s w o g now
progress_open s w o g now p =
    let rows = passed-append (token_rows s w extending o g) (progress_rows s o now) p in
    let front = token_open s w extending o g rows.0 in
    record {
      allowed = front.allowed;
      token = token-owned s w extending o g front;
      below_cap = leb-false (cap_from s.table.config (start_of (lease_of s.table o))) now rows.1.0;
    }

pub progress_cases : (s : State) (w o g now : ℕ) (P : Answer ℕ State → Type 0)
    → ((r : Refusal) → P (answer (refused r) s))
    → (ProgressOpen s w o g now → P (answer (done (extended s.table o now)) (progressed s o (extended s.table o now))))
    → P (progress s w o g now)
unfolding progress
progress_cases s w o g now P refusal effect =
    guarded_cases (progress_table s w o g now) s _ P (λ r e. refusal r) (λ p. effect (progress_open s w o g now p))

-- ## commit
pub record CommitOpen (s : State) (w bound : ℕ) : Type 0 where
  pub allowed : Allowed s w committing
  pub above : s.cursor.committed < bound

pub commit_open : (s : State) (w bound : ℕ) → Passed (call_rows s w committing) → leb bound s.cursor.committed ≡ false
    → CommitOpen s w bound
commit_open s w bound front e =
    record {
      allowed = call_open s w committing front;
      above = leb-false bound s.cursor.committed e;
    }

pub commit_cases : (s : State) (w bound : ℕ) (P : Answer Bool State → Type 0)
    → ((r : Refusal) → P (answer (refused r) s))
    → (Allowed s w committing → bound ≤ s.cursor.committed → P (answer (done false) s))
    → (CommitOpen s w bound → P (answer (done true) (with_committed s bound)))
    → P (commit s w bound)
unfolding commit
commit_cases s w bound P refusal unchanged effect =
    guarded_cases (call_rows s w committing) s _ P (λ r q. refusal r)
    (λ front.
    split (leb bound s.cursor.committed)
    (λ e. rw e (unchanged (call_open s w committing front) (leb-true bound s.cursor.committed e)))
    (λ e. rw e (effect (commit_open s w bound front e))))
