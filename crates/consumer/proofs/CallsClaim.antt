-- What a claim owes its contract: each of its tests in their order, what the whole test says, and the grant after it.
-- Assumes nothing.
use Prim.Native.Nat.{ℕ, ◌+◌, ◌≤◌, ◌<◌}
use mathlib.Core.Path.{◌≡◌, refl, sym, ap, ◌∙◌}
use mathlib.Core.Bool.{Bool, true, false, not, cond, ◌&&◌, true≢false}
use mathlib.Core.List.{List}
use mathlib.Core.Option.{Option, none, some, none-ne-some}
use lib.Dec.{leb}
use lib.ListN.{length}
use borrow.Author.Tests.{eq-eqb, ne_eqb, le-leb, lt-leb}
use Rattle.std.specs.Prelude.{Some, None, is_some}
use Rattle.std.specs.Prelude as std
use Rattle.types.specs.Limits.{MAX, LEASES, CARRIED}
use Rattle.types.specs.Refusal.{Refusal, Result, refused, done, LastOffset, Settled, Closed, InFlight, Exhausted, CheckpointDue, Full}
use Rattle.types.specs.Refused.{option_of}
use Rattle.types.specs.Table.{Row, first, Passed, Answer, answer}
use Rattle.types.specs.Keyed.{lookup}
use Rattle.types.proofs.Table.{first_none, guarded-passed, first-met-before, first_none_before, passed-append}
use Rattle.cursor.specs.Cursor.{settled}
use Rattle.delivery.specs.Config.{dispositionOf}
use Rattle.delivery.specs.Policy.{destination}
use Rattle.delivery.specs.declared.Disposition.{Disposition}
use Rattle.delivery.specs.declared.Disposition.TheVariants as dispositions
use Rattle.hours.specs.Hours.{isOpen, next_opening}
use Rattle.lease.specs.declared.Lease.{Lease}
use Rattle.lease.specs.declared.LeaseTable.{LeaseTable}
use Rattle.lease.specs.declared.Grant as code
use Rattle.lease.specs.State.{Table}
use Rattle.lease.specs.State as state
use Rattle.lease.specs.Operations.{Grant, granted, grant, lease_of, is_none, running}
use Rattle.lease.specs.Operations as leases
use Rattle.lease.specs.Answers.{grant_in}
use Rattle.lease.specs.Answers as answers
use Rattle.consumer.specs.State.{State, with_table}
use Rattle.consumer.specs.Rights.{claiming}
use Rattle.consumer.specs.Calls.{call_rows, HandOut, hand_out, is_full, claim_rows, claim_table, claim, claimed}
use Rattle.consumer.specs.Parts.{handed_out}
use Rattle.consumer.specs.View.{view, Sound, Answers, holding, hand_out_of, destination_of}
use Rattle.consumer.specs.declared.Consumer.{Consumer}
use Rattle.consumer.proofs.Open.{claim_open}
use Rattle.consumer.proofs.Valid.{claimed-valid}
use Rattle.consumer.proofs.CallsReturns.{sound-with, refuses, takes_effect}

-- ## 27
-- whether there is a count, by the code's own test
pub uncounted : (x : std.Option ℕ) (b : Bool) → is_some x ≡ not b → is_none (option_of (λ n. n) x) ≡ b
uncounted None true e = refl
uncounted (Some n) false e = refl
uncounted None false e = absurd (true≢false (sym e))
uncounted (Some n) true e = absurd (true≢false e)

both_false : (b : Bool) → (b && false) ≡ false
both_false true = refl
both_false false = refl

module _ (t : Table) (o : ℕ) where
  pub full-leased : (l : Lease) → lease_of t o ≡ some l → false ≡ is_full t o
  full-leased l e = rw e

  module _ (free : lease_of t o ≡ none) where
    pub full-leases : LEASES ≤ length t.leases → true ≡ is_full t o
    full-leases h = rw (free, le-leb LEASES (length t.leases) h)

    module _ (h : length t.leases < LEASES) where
      -- there is plainly room, whatever is carried
      pub full-room : length t.leases + length t.carried < CARRIED → false ≡ is_full t o
      full-room k = rw (free, lt-leb LEASES (length t.leases) h, lt-leb CARRIED (length t.leases + length t.carried) k) (sym (both_false (is_none (lookup o t.carried))))

      pub full-counted : (n : ℕ) → lookup o t.carried ≡ some n → false ≡ is_full t o
      full-counted n e = rw (free, lt-leb LEASES (length t.leases) h, e)

      module _ (k : CARRIED ≤ length t.leases + length t.carried) where
        pub full-counts : lookup o t.carried ≡ none → true ≡ is_full t o
        full-counts e = rw (free, lt-leb LEASES (length t.leases) h, e, le-leb CARRIED (length t.leases + length t.carried) k)

        -- then it is whether the offset has a count
        pub full-by-count : is_none (lookup o t.carried) ≡ is_full t o
        full-by-count = go (lookup o t.carried) refl
          where
            go : (x : Option ℕ) → lookup o t.carried ≡ x → is_none x ≡ is_full t o
            go none e = full-counts e
            go (some n) e = full-counted n e

-- ## the tests, each after those before it that failed
-- whether a claim may go on, from what the table calls claimable
pub blocked : (b x : Bool) → b ≡ not x → not b ≡ true → x ≡ true
blocked b true e h = refl
blocked b false e h = absurd (true≢false (sym h ∙ ap not e))

pub unblocked : (b x : Bool) → b ≡ not x → not b ≡ false → x ≡ false
unblocked b false e h = refl
unblocked b true e h = absurd (true≢false (sym (ap not e) ∙ h))

-- whether it is open, by when it opens next
pub open-now : (open_now : Bool) (opening : ℕ) → none ≡ cond open_now none (some opening) → open_now ≡ true
open-now true opening e = refl
open-now false opening e = absurd (none-ne-some opening e)

pub opens-later : (open_now : Bool) (opening clock : ℕ) → some clock ≡ cond open_now none (some opening) → (open_now ≡ false) × (clock ≡ opening)
opens-later true opening clock e = absurd (none-ne-some clock (sym e))
opens-later false opening clock e = (refl, cc)

module _ (s : State) (o now : ℕ) where
  -- the claim is refused so
  abbrev pub Refuses : Refusal → Type 0
  Refuses r = some r ≡ first (claim_rows s o now)

  refuses-with : (r : Refusal) → first (claim_rows s o now) ≡ some r → Refuses r
  refuses-with r e = sym e

  pub is-last : o ≡ MAX → Refuses LastOffset
  is-last h = refuses-with LastOffset (rw (eq-eqb o MAX h))

  module _ (last : o ≡ MAX → ⊥) where
    pub is-settled : settled s.cursor o ≡ true → Refuses Settled
    is-settled h = refuses-with Settled (rw (ne_eqb o MAX last, h))

    module _ (unsettled : settled s.cursor o ≡ false) where
      pub is-closed : isOpen s.settings.hours now ≡ false → (clock : ℕ) → clock ≡ next_opening s.settings.hours now → Refuses (Closed clock)
      is-closed h clock e = refuses-with (Closed clock) (rw (ne_eqb o MAX last, unsettled, h) (ap (λ (x : ℕ). some (Closed x)) (sym e)))

      module _ (in-hours : isOpen s.settings.hours now ≡ true) where
        pub is-running : running (lease_of s.table o) now ≡ true → Refuses InFlight
        is-running h = refuses-with InFlight (rw (ne_eqb o MAX last, unsettled, in-hours, h))

        module _ (not-running : running (lease_of s.table o) now ≡ false) where
          pub is_exhausted : s.table.next_generation ≡ MAX → Refuses Exhausted
          is_exhausted h =
              refuses-with Exhausted (rw (ne_eqb o MAX last, unsettled, in-hours, not-running, eq-eqb s.table.next_generation MAX h))

          module _ (left : s.table.next_generation ≡ MAX → ⊥) where
            pub is-at-ceiling : s.ceiling ≤ s.table.next_generation → Refuses CheckpointDue
            is-at-ceiling h =
                refuses-with CheckpointDue
                (rw (ne_eqb o MAX last, unsettled, in-hours, not-running, ne_eqb s.table.next_generation MAX left, le-leb s.ceiling s.table.next_generation h))

            module _ (below : s.table.next_generation < s.ceiling) where
              pub is-at-threshold : s.settings.policy.flush_redeliveries ≤ s.table.redeliveries → Refuses CheckpointDue
              is-at-threshold h =
                  refuses-with CheckpointDue
                  (rw (ne_eqb o MAX last, unsettled, in-hours, not-running, ne_eqb s.table.next_generation MAX left, lt-leb s.ceiling s.table.next_generation below, le-leb s.settings.policy.flush_redeliveries s.table.redeliveries h))

              module _ (few : s.table.redeliveries < s.settings.policy.flush_redeliveries) where
                pub is-full : is_full s.table o ≡ true → Refuses Full
                is-full h =
                    refuses-with Full
                    (rw (ne_eqb o MAX last, unsettled, in-hours, not-running, ne_eqb s.table.next_generation MAX left, lt-leb s.ceiling s.table.next_generation below, lt-leb s.settings.policy.flush_redeliveries s.table.redeliveries few) (rw h))

                pub is_open : is_full s.table o ≡ false → none ≡ first (claim_rows s o now)
                is_open h =
                    rw (ne_eqb o MAX last, unsettled, in-hours, not-running, ne_eqb s.table.next_generation MAX left, lt-leb s.ceiling s.table.next_generation below, lt-leb s.settings.policy.flush_redeliveries s.table.redeliveries few) (rw h)

-- ## what the whole test says
-- the worker's rows, then the claim's own
module _ (s : State) (w o now : ℕ) where
  pub claim_unpermitted : (r : Refusal) → some r ≡ first (call_rows s w claiming) → some r ≡ first (claim_table s w o now)
  claim_unpermitted r e = sym (first-met-before (call_rows s w claiming) (claim_rows s o now) r (sym e))

  pub claim-permitted : none ≡ first (call_rows s w claiming) → first (claim_rows s o now) ≡ first (claim_table s w o now)
  claim-permitted e = sym (first_none_before (call_rows s w claiming) (claim_rows s o now) (sym e))

pub open_passed : (ws : List Row) → none ≡ first ws → Passed ws
open_passed ws e = first_none ws (sym e)

pub claim-refused : (c : Consumer) → Sound c → (w o now : ℕ) (r : Refusal) → some r ≡ first (claim_table (view c) w o now)
    → Answers (refused r) c c (claim (view c) w o now)
unfolding claim
claim-refused c ok w o now r e = refuses c ok (claim_table (view c) w o now) r _ (sym e)

-- ## the grant
-- the answer has the disposition's destination
destination-is : (d : Disposition) → dispositionOf d ≡ done (destination_of d)
destination-is dispositions.Deliver = refl
destination-is dispositions.DeadLetter = refl

pub handed : (limit : ℕ) (g : code.Grant) (d : Disposition) → dispositionOf d ≡ done (destination limit g.deliveries)
    → done (hand_out_of (record { token = g.token; deliveries = g.deliveries; disposition = d })) ≡ handed_out limit (done (grant_in g))
handed limit g d q =
    let both : done (destination_of d) ≡ done (destination limit g.deliveries) = sym (destination-is d) ∙ q in
    let same : destination_of d ≡ destination limit g.deliveries = cc in
    rw same

module _ (c : Consumer) (ok : Sound c) (w o now : ℕ) (fits : o ≤ MAX) (p : Passed (claim_table (view c) w o now)) where
  abbrev t : Table
  t = (view c).table

  -- the table's own tests failed too
  pub table-passed : Passed (leases.claim_rows t o now)
  table-passed = (own.1.1.1.0, (own.1.1.1.1.0, (room (lease_of t o) refl, tt)))
    where
      own : Passed (claim_rows (view c) o now)
      own = (passed-append (call_rows (view c) w claiming) (claim_rows (view c) o now) p).1

      room : (x : Option Lease) → lease_of t o ≡ x → (is_none x && leb LEASES (length t.leases)) ≡ false
      room none e = lt-leb LEASES (length t.leases) ((claim_open (view c) w o now p).lease-room e)
      room (some l) e = refl

  table-granted : leases.claim t w o now ≡ answer (done (granted t o)) (grant t w o now)
  unfolding leases.claim
  table-granted = guarded-passed (leases.claim_rows t o now) t _ table-passed

  -- what the table did is what the claim does
  pub claim-granted : (outcome : Result Grant) (after : LeaseTable) → answers.Answers outcome c.table after (leases.claim t w o now)
      → (a : Result HandOut) → a ≡ handed_out (view c).settings.policy.maxDeliver outcome
      → Answers a c (holding c after) (claim (view c) w o now)
  unfolding claim
  claim-granted outcome after e a f =
      let made : answer outcome (state.view after) ≡ answer (done (granted t o)) (grant t w o now) = e.is ∙ table-granted in
      let shows : view (holding c after) ≡ claimed (view c) w o now = ap (λ (x : Answer Grant Table). with_table (view c) x.state) made in
      rw (f ∙ ap (λ (x : Answer Grant Table). handed_out (view c).settings.policy.maxDeliver x.outcome) made)
      (takes_effect c ok (claim_table (view c) w o now) (hand_out (view c) o) p shows
      (sound-with c ok ok.cursor e.sound shows (claimed-valid (view c) w o now ok.valid (claim_open (view c) w o now p) fits)))
