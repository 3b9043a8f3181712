-- What the calls with a token owe their contracts: what their common test says, and after it that the consumer refuses what the table
-- refuses and shows what the table did.
-- Assumes nothing.
use Prim.Native.Nat.{ℕ, ◌≤◌, ◌<◌}
use native.Mathlib.Omega.{arith}
use mathlib.Core.Path.{◌≡◌, refl, sym, ap, subst, ◌∙◌}
use mathlib.Core.Bool.{Bool, true, false, cond, not, true≢false}
use mathlib.Core.List.{List, [], ◌∷◌}
use mathlib.Core.Option.{Option, none, some, none-ne-some}
use lib.Dec.{eqb}
use borrow.Author.Tests.{eq-eqb, ne_eqb, le-leb, lt-leb}
use Rattle.types.specs.Limits.{MAX, RANGES, sat64}
use Rattle.types.specs.Refusal.{Refusal, Result, refused, done, Fenced, Exhausted, CheckpointDue, Shed, ForeignToken}
use Rattle.types.specs.Table.{Row, ◌⇒◌, first, Passed, checked, Answer, answer, unless_kept, Kept}
use Rattle.types.specs.Keyed.{delete}
use Rattle.types.proofs.Cases.{split}
use Rattle.types.proofs.Table.{first_none, passed_none, first-met, guarded-passed, checked-passed, checked-done, first-met-before, first_none_before, passed-append, append-passed}
use Rattle.cursor.specs.Cursor.{Cursor, ackBounded}
use Rattle.cursor.specs.Answers as cursor
use Rattle.cursor.specs.declared.AckCursor.{AckCursor}
use Rattle.delivery.specs.Policy.{effective_nack_delay}
use Rattle.lease.specs.declared.Lease.{Lease}
use Rattle.lease.specs.declared.LeaseTable.{LeaseTable}
use Rattle.lease.specs.State.{Table, with_leases}
use Rattle.hours.specs.Hours.{next_opening}
use Rattle.lease.specs.State as state
use Rattle.lease.specs.Operations.{lease_of, owns, token_row, extend_rows, extended, requeue}
use Rattle.lease.specs.Operations as leases
use Rattle.lease.specs.Rest.{deliveries_of, hold_of, hold}
use Rattle.lease.specs.Answers as answers
use Rattle.consumer.specs.State.{State, with_table, with_both, count_or0}
use Rattle.consumer.specs.Rights.{Operation, settling, nacking, extending}
use Rattle.consumer.specs.Calls.{call_rows, held_by, token_rows, is_shed, ack_rows, ack_table, acked, ack, attempt_of, nack_deadline, nack_rows, nack_table, nacked, nack, progress_rows, progress_table, progressed, progress}
use Rattle.consumer.specs.View.{view, Sound, Answers, holding, holding_both}
use Rattle.consumer.specs.declared.Consumer.{Consumer}
use Rattle.consumer.proofs.Open.{Allowed, call_open, token-refused, token-foreign, token-passed, token_open, ack_open, nack_open}
use Rattle.consumer.proofs.Valid.{acked-valid, nacked-valid, progress-valid}
use Rattle.consumer.proofs.CallsReturns.{sound-with, refuses, takes_effect}

-- ## the token
-- what its lease says of the token
not_owned : (x : Option Lease) (g : ℕ) → none ≡ cond (owns x g) (hold_of x) none → not (owns x g) ≡ true
not_owned none g e = refl
not_owned (some l) g e = split (owns (some l) g) (λ q. absurd (none-ne-some (l.deliveries, l.worker) (e ∙ rw q))) (λ q. rw q)

is-owned : (x : Option Lease) (g : ℕ) (n : ℕ × ℕ) → some n ≡ cond (owns x g) (hold_of x) none → not (owns x g) ≡ false
is-owned x g n e = split (owns x g) (λ q. rw q) (λ q. absurd (none-ne-some n (sym (e ∙ rw q))))

-- the hold of a lease that is owned
its_hold : (x : Option Lease) (g : ℕ) (n : ℕ × ℕ) → some n ≡ cond (owns x g) (hold_of x) none → some n ≡ hold_of x
its_hold x g n e = split (owns x g) (λ q. rw q at e) (λ q. absurd (none-ne-some n (sym (e ∙ rw q))))

its_count : (x : Option Lease) (n : ℕ × ℕ) → some n ≡ hold_of x → n.0 ≡ count_or0 (deliveries_of x)
its_count none n e = absurd (none-ne-some n (sym e))
its_count (some l) n e = let same : n ≡ (l.deliveries, l.worker) = cc in ap (λ (p : ℕ × ℕ). p.0) same

its_worker : (w : ℕ) (x : Option Lease) (n : ℕ × ℕ) → some n ≡ hold_of x → held_by w x ≡ eqb n.1 w
its_worker w none n e = absurd (none-ne-some n (sym e))
its_worker w (some l) n e = let same : n ≡ (l.deliveries, l.worker) = cc in ap (λ (p : ℕ × ℕ). eqb p.1 w) (sym same)

-- the rows of a token, each after those before it that failed
module _ (s : State) (w : ℕ) (op : Operation) (o g : ℕ) where
  -- the test answers so
  abbrev Says : Result ℕ → Type 0
  Says r = r ≡ checked (token_rows s w op o g) (done (attempt_of s o))

  says-refused : (r : Refusal) → first (token_rows s w op o g) ≡ some r → Says (refused r)
  says-refused r e = rw e

  pub is_unpermitted : (r : Refusal) → some r ≡ first (call_rows s w op) → Says (refused r)
  is_unpermitted r e =
      says-refused r
      (first-met-before (call_rows s w op) (token_row s.table o g ∷ not (held_by w (lease_of s.table o)) ⇒ ForeignToken ∷ []) r (sym e))

  module _ (e : none ≡ first (call_rows s w op)) where
    allowed : Allowed s w op
    allowed = call_open s w op (first_none (call_rows s w op) (sym e))

    pub is-fenced : none ≡ hold s.table o g → Says (refused Fenced)
    is-fenced h = says-refused Fenced (token-refused s w op o g allowed (not_owned (lease_of s.table o) g h))

    module _ (n holder : ℕ) (h : some (n, holder) ≡ hold s.table o g) where
      owned : not (owns (lease_of s.table o) g) ≡ false
      owned = is-owned (lease_of s.table o) g (n, holder) h

      held : held_by w (lease_of s.table o) ≡ eqb holder w
      held = its_worker w (lease_of s.table o) (n, holder) (its_hold (lease_of s.table o) g (n, holder) h)

      pub is-foreign : (holder ≡ w → ⊥) → Says (refused ForeignToken)
      is-foreign d = says-refused ForeignToken (token-foreign s w op o g allowed owned (held ∙ ne_eqb holder w d))

      pub is_held : holder ≡ w → Says (done n)
      is_held d =
          ap done (its_count (lease_of s.table o) (n, holder) (its_hold (lease_of s.table o) g (n, holder) h))
          ∙ sym (checked-passed (token_rows s w op o g) (done (attempt_of s o)) (token-passed s w op o g allowed owned (held ∙ eq-eqb holder w d)))

-- what a call learns from the test
pub first-refused : {A : Type 0} (ws : List Row) (a : A) (r : Refusal) → refused r ≡ checked ws (done a) → first ws ≡ some r
first-refused {A} ws a r e = go (first ws) refl
  where
    go : (x : Option Refusal) → first ws ≡ x → first ws ≡ some r
    go none q = let d : refused r ≡ done a = e ∙ checked-passed ws (done a) (first_none ws q) in absurd (let z : ◌≡◌ {A = ℕ} 0 1 = cc in omega arith)
    go (some p) q =
        let d : ◌≡◌ {A = Result A} (refused r) (refused p) = rw q at e in
        let same : p ≡ r = cc in
        q ∙ ap some same

pub test-passed : {A : Type 0} (ws : List Row) (n a : A) → done n ≡ checked ws (done a) → Passed ws × (n ≡ a)
test-passed ws n a e = let d = checked-done ws a n (sym e) in (d.0, sym d.1)

-- ## Ack and Term
-- a cursor that sheds an ack is as it was
kept-shed : (noted : Result Bool) {before after : AckCursor} → is_shed noted ≡ true → cursor.KeptUnlessNew noted before after → after ≡ before
kept-shed (refused r) h k = k
kept-shed (done b) h k = absurd (true≢false (sym h))

module _ (c : Consumer) (ok : Sound c) (w o g : ℕ) where
  abbrev t : Table
  t = (view c).table

  pub ack-refused : (r : Refusal) → first (token_rows (view c) w settling o g) ≡ some r → Answers (refused r) c c (ack (view c) w o g)
  unfolding ack
  ack-refused r e =
      refuses c ok (ack_table (view c) w o g) r _ (first-met-before (token_rows (view c) w settling o g) (ack_rows (view c) o) r e)

  module _ (owned : Passed (token_rows (view c) w settling o g)) where
    table-acked : leases.ack t o g ≡ answer (done tt) (with_leases t (delete o t.leases))
    unfolding leases.ack
    table-acked = guarded-passed (token_row t o g ∷ []) t _ ((token_open (view c) w settling o g owned).not_fenced, tt)

    module _ (noted : Result Bool) (k : AckCursor) (u : cursor.Updated c.cursor noted k (ackBounded (view c).cursor o RANGES)) where
      shed-is : is_shed noted ≡ is_shed (ackBounded (view c).cursor o RANGES).outcome
      shed-is = ap (λ (a : Answer Bool Cursor). is_shed a.outcome) u.is

      pub ack-shed : is_shed noted ≡ true → Answers (refused Shed) c (holding_both c k c.table) (ack (view c) w o g)
      unfolding ack
      ack-shed s =
          subst (λ (x : AckCursor). Answers (refused Shed) c (holding_both c x c.table) (ack (view c) w o g)) (sym (kept-shed noted s u.kept))
          (refuses c ok (ack_table (view c) w o g) Shed _ (first-met (token_rows (view c) w settling o g) [] _ owned (sym shed-is ∙ s)))

      pub ack-settled : is_shed noted ≡ false → (outcome : Result (Unit {0})) (after : LeaseTable) → answers.Answers outcome c.table after (leases.ack t o g)
          → Answers (done tt) c (holding_both c k after) (ack (view c) w o g)
      unfolding ack
      ack-settled s outcome after r =
          let p : Passed (ack_table (view c) w o g) = append-passed (token_rows (view c) w settling o g) (ack_rows (view c) o) owned (sym shed-is ∙ s, tt) in
          let shows : view (holding_both c k after) ≡ acked (view c) o =
          ap (λ (a : Answer Bool Cursor). with_both (view c) a.state (state.view after)) u.is
          ∙ ap (λ (a : Answer (Unit {0}) Table). with_both (view c) (ackBounded (view c).cursor o RANGES).state a.state) (r.is ∙ table-acked) in
          takes_effect c ok (ack_table (view c) w o g) tt p shows
          (sound-with c ok u.sound r.sound shows (acked-valid (view c) w o g ok.valid (ack_open (view c) w o g p)))

-- ## Nack
module _ (c : Consumer) (ok : Sound c) (w o g now : ℕ) (explicit : Option ℕ) where
  pub nack-refused : (r : Refusal) → first (token_rows (view c) w nacking o g) ≡ some r → Answers (refused r) c c (nack (view c) w o g now explicit)
  unfolding nack
  nack-refused r e =
      refuses c ok (nack_table (view c) w o g) r _ (first-met-before (token_rows (view c) w nacking o g) (nack_rows (view c)) r e)

  module _ (held : Passed (token_rows (view c) w nacking o g)) where
    -- the token's rows are passed, so the first of the nack's own that is met is answered
    its_own : first (nack_table (view c) w o g) ≡ first (nack_rows (view c))
    its_own = first_none_before (token_rows (view c) w nacking o g) (nack_rows (view c)) (passed_none (token_rows (view c) w nacking o g) held)

    pub nack_exhausted : (view c).table.next_generation ≡ MAX → Answers (refused Exhausted) c c (nack (view c) w o g now explicit)
    unfolding nack
    nack_exhausted h =
        refuses c ok (nack_table (view c) w o g) Exhausted _ (its_own ∙ rw (eq-eqb (view c).table.next_generation MAX h))

    module _ (left : (view c).table.next_generation ≡ MAX → ⊥) where
      pub nack-due : (view c).ceiling ≤ (view c).table.next_generation → Answers (refused CheckpointDue) c c (nack (view c) w o g now explicit)
      unfolding nack
      nack-due h =
          refuses c ok (nack_table (view c) w o g) CheckpointDue _
          (its_own ∙ rw (ne_eqb (view c).table.next_generation MAX left, le-leb (view c).ceiling (view c).table.next_generation h))

      pub nack-passed : (view c).table.next_generation < (view c).ceiling → Passed (nack_table (view c) w o g)
      nack-passed h =
          append-passed (token_rows (view c) w nacking o g) (nack_rows (view c)) held
          (ne_eqb (view c).table.next_generation MAX left, (lt-leb (view c).ceiling (view c).table.next_generation h, tt))

module _ (c : Consumer) (ok : Sound c) (w o g now attempt : ℕ) (explicit : Option ℕ) (p : Passed (nack_table (view c) w o g)) (count : attempt ≡ attempt_of (view c) o)
    (capped : ℕ) (waits : capped ≡ effective_nack_delay (view c).settings.policy attempt explicit c.table.config.hard_cap_nanos)
    (delay : ℕ) (moves : sat64 now delay ≡ next_opening (view c).settings.hours (sat64 now capped)) where
  -- the table's own tests failed too
  table-nacked : leases.nack (view c).table o g now delay ≡ answer (done (sat64 now delay)) (requeue (view c).table o (sat64 now delay))
  unfolding leases.nack
  table-nacked =
      let rows = passed-append (token_rows (view c) w nacking o g) (nack_rows (view c)) p in
      guarded-passed (leases.nack_rows (view c).table o g) (view c).table _ ((token_open (view c) w nacking o g rows.0).not_fenced, (rows.1.0, tt))

  deadline-is : sat64 now delay ≡ nack_deadline (view c) o now explicit
  deadline-is =
      moves
      ∙ ap (λ (n : ℕ). next_opening (view c).settings.hours (sat64 now n))
      (waits ∙ ap (λ (n : ℕ). effective_nack_delay (view c).settings.policy n explicit c.table.config.hard_cap_nanos) count)

  -- what the table did is what the nack does
  pub nack_requeued : (outcome : Result ℕ) (after : LeaseTable) → answers.Answers outcome c.table after (leases.nack (view c).table o g now delay)
      → Answers outcome c (holding c after) (nack (view c) w o g now explicit)
  unfolding nack
  nack_requeued outcome after e =
      let shows : view (holding c after) ≡ nacked (view c) o (nack_deadline (view c) o now explicit) =
      ap (λ (x : Answer ℕ Table). with_table (view c) x.state) (e.is ∙ table-nacked) ∙ ap (nacked (view c) o) deadline-is in
      let same : outcome ≡ done (nack_deadline (view c) o now explicit) =
      ap (λ (x : Answer ℕ Table). x.outcome) (e.is ∙ table-nacked) ∙ ap done deadline-is in
      rw same
      (takes_effect c ok (nack_table (view c) w o g) (nack_deadline (view c) o now explicit) p shows
      (sound-with c ok ok.cursor e.sound shows
      (nacked-valid (view c) w o g (nack_deadline (view c) o now explicit) ok.valid (nack_open (view c) w o g p))))

-- ## Progress
-- what a call on the table alone leaves of the state
abbrev on_table : State → Answer ℕ Table → Answer ℕ State
on_table s a = answer a.outcome (with_table s a.state)

-- behind the token's rows it refuses what the table refuses, and does what the table does
module _ (s : State) (w o g now : ℕ) (owned : Passed (token_rows s w extending o g)) where
  same-refusal : first (progress_table s w o g now) ≡ first (extend_rows s.table o g now)
  same-refusal =
      first_none_before (token_rows s w extending o g) (progress_rows s o now) (passed_none (token_rows s w extending o g) owned)
      ∙ rw (token_open s w extending o g owned).not_fenced

  as_table : on_table s (leases.extend s.table o g now) ≡ progress s w o g now
  unfolding progress leases.extend
  as_table = rw same-refusal (go (first (extend_rows s.table o g now)))
    where
      go : (x : Option Refusal)
          → on_table s (unless_kept x s.table (answer (done (extended s.table o now)) (progressed s o (extended s.table o now)).table))
          ≡ unless_kept x s (answer (done (extended s.table o now)) (progressed s o (extended s.table o now)))
      go none = refl
      go (some r) = refl

module _ (c : Consumer) (ok : Sound c) (w o g now : ℕ) where
  pub progress-refused : (r : Refusal) → first (token_rows (view c) w extending o g) ≡ some r → Answers (refused r) c c (progress (view c) w o g now)
  unfolding progress
  progress-refused r e =
      refuses c ok (progress_table (view c) w o g now) r _ (first-met-before (token_rows (view c) w extending o g) (progress_rows (view c) o now) r e)

  -- what the table did, or refused, is what Progress does
  pub progress-is : Passed (token_rows (view c) w extending o g) → (outcome : Result ℕ) (after : LeaseTable)
      → answers.Answers outcome c.table after (leases.extend (view c).table o g now)
      → Answers outcome c (holding c after) (progress (view c) w o g now)
  progress-is owned outcome after e =
      let is : answer outcome (view (holding c after)) ≡ progress (view c) w o g now = ap (on_table (view c)) e.is ∙ as_table (view c) w o g now owned in
      record {
        is = is;
        sound = sound-with c ok ok.cursor e.sound (ap (λ (x : Answer ℕ State). x.state) is) (progress-valid (view c) w o g now ok.valid);
        kept = kept outcome e.kept;
      }
    where
      kept : (x : Result ℕ) → Kept x c.table after → Kept x c (holding c after)
      kept (refused r) k = ap (holding c) k
      kept (done d) k = tt
