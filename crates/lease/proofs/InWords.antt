-- What a call on the words of a table owes its contract at each of its answers, over the place that was found and the table that the
-- words are afterwards.
-- Assumes nothing.
use Prim.Native.Nat.{ℕ, zero, suc, ◌+◌, ◌-◌, ◌%◌, ◌≤◌, ◌<◌}
use native.Mathlib.Omega.{arith}
use mathlib.Core.Path.{◌≡◌, refl, sym, ap, subst, ◌∙◌}
use mathlib.Core.Bool.{Bool, true, false, ◌&&◌, true≢false}
use mathlib.Core.List.{List, [], ◌∷◌, map}
use mathlib.Core.Option.{none, some}
use Rattle.std.specs.Prelude.{Option, Some, None}
use lib.Dec.{ltb, leb, eqb}
use lib.ListN.{length, take, drop, get_or, set, replicate, length-set, length-replicate, get_or-eq_default}
use lib.Seq.{length-take-le}
use borrow.Author.Tests.{ltb-true, ltb-false, le-leb, lt-leb, eq-eqb}
use borrow.Rule.Slice.PartMut.{put_mid, same_len_mid}
use Rattle.types.specs.Limits.{MAX, MAX32, LEASES, CARRIED, sat32, sat64}
use Rattle.types.specs.Keyed.{update}
use Rattle.types.specs.Refusal.{Refusal, refused, done, InFlight, Fenced, Exhausted, Full, CapReached}
use Rattle.types.specs.Table.{Row, first, Passed, Answer, answer, guarded}
use Rattle.types.proofs.Cases.{split}
use Rattle.types.proofs.Keyed.{lookup-all}
use Rattle.types.proofs.Table.{guarded-passed, guarded-refused}
use Rattle.tables.specs.Columns.{put_in, takenOut}
use Rattle.tables.specs.Search.{Boundary, Placed, Spans}
use Rattle.tables.specs.Slots.{Permutes, upTo, set_aside}
use Rattle.tables.specs.declared.Place.TheVariants.{Found, Missing}
use Rattle.tables.specs.declared.counts.Span.{Span}
use Rattle.tables.proofs.Columns.{put_in_at, put_in_front, taken-out-front}
use Rattle.tables.proofs.Search.{found-used, boundary_inside}
use Rattle.tables.proofs.Slots.{permutes_up_to}
use Rattle.words.specs.Columns.{word, column}
use Rattle.words.proofs.Columns.{column-is, spliced-is, column-length, column-at}
use Rattle.redeliveries.specs.Counter.{after_grant}
use Rattle.lease.specs.State.{Table, Counted, Valid, nil, stored_in, leases_in, with_leases, starting_at}
use Rattle.lease.specs.State as state
use Rattle.lease.specs.Operations.{lease, lease_of, is_none, running, owns, cap_from, deadline_from, next_count, grant, granted, claim_rows, claim, token_row, ack, with_deadline, extend_rows, extended, extend, requeued_as, requeue, nack_rows, nack}
use Rattle.lease.specs.Rest.{attempts_flushed, release_below, resealed_as, reseal_from_to, is_expired, defer_redelivery, shift_deadlines, hold}
use Rattle.lease.specs.Helpers.{later_by}
use Rattle.lease.specs.Parts.{Whole, slot_in, removing, releasing}
use Rattle.lease.specs.Layout.{LEN, CARRIED-LEN, NEXT, REDELIVERIES, VISIBILITY, HARD-CAP, OFFSETS, SLOTS, GENERATIONS, STARTS, DEADLINES, DELIVERIES, WORKERS, CARRIED-OFFSETS, CARRIED-COUNTS, WORDS, config_in, table_in, view, Narrow, Fits, Sound}
use Rattle.lease.specs.InWords.{Answers, Tries, Becomes, grant_in, PlacedIn, OwnedIn}
use Rattle.lease.specs.Stored.{held_at, holding, numbered, granting, handed_out, placing, passing, displacing, Passes, CountsReleased, LeasesReleased}
use Rattle.lease.specs.declared.Lease.{Lease}
use Rattle.lease.specs.declared.LeaseConfig.{LeaseConfig}
use Rattle.lease.specs.declared.LeaseTable.{LeaseTable}
use Rattle.lease.specs.declared.Grant.{Grant}
use Rattle.lease.proofs.Bounds.{within, from_first}
use Rattle.lease.proofs.Changes.{releases, shifts}
use Rattle.lease.proofs.Claims.{count-first, count-again, granted-first, granted-again}
use Rattle.lease.proofs.Leases.{column-set}
use Rattle.lease.proofs.Leases as leases
use Rattle.lease.proofs.Passed.{claim-passed}
use Rattle.lease.proofs.Questions.{run_out}
use Rattle.lease.proofs.Returns.{Shows, sound_as}
use Rattle.lease.proofs.Slots.{free, leased, stored_at, in_flight_lem, lease-at, updated, carried, carried-span}
use Rattle.lease.proofs.Stores.{timed, configured, stored-redeliveries, spliced-slots, start-stored}
use Rattle.lease.proofs.Tokens.{with_next, owned-used, not_owned, owned, one, acked}
use Rattle.lease.proofs.Valid.{valid-start, valid-grant, valid-update, valid-requeue, valid-flushed}

-- ## the columns of a table's words are whole
pub whole : {w : List ℕ} → Sound w → Whole (table_in w)
whole {w} ok =
    let l = ok.long in
    record {
      full =
          record {
            offsets = column-length OFFSETS LEASES w (omega arith);
            slots = column-length SLOTS LEASES w (omega arith);
            leases =
                record {
                  generations = column-length GENERATIONS LEASES w (omega arith);
                  starts = column-length STARTS LEASES w (omega arith);
                  deadlines = column-length DEADLINES LEASES w (omega arith);
                  counts = column-length DELIVERIES LEASES w (omega arith);
                  workers = column-length WORKERS LEASES w (omega arith);
                };
            carried-offsets = column-length CARRIED-OFFSETS CARRIED w (omega arith);
            carried-counts = column-length CARRIED-COUNTS CARRIED w (omega arith);
          };
      sound = ok.table;
    }

-- ## numbers of 32 bits
narrow_set : (l : List ℕ) (s v : ℕ) → v ≤ MAX32 → Narrow l → Narrow (set l s v)
narrow_set [] s v h n i = n i
narrow_set (x ∷ l) zero v h n zero = h
narrow_set (x ∷ l) zero v h n (suc i) = n (suc i)
narrow_set (x ∷ l) (suc s) v h n zero = n 0
narrow_set (x ∷ l) (suc s) v h n (suc i) = narrow_set l s v h (λ j. n (suc j)) i

counted-fits : (r d : ℕ) → r ≤ MAX32 → after_grant r d ≤ MAX32
counted-fits r d h = split (leb 2 d) (λ q. rw q (omega arith)) (λ q. rw q h)

module _ {t : LeaseTable} (f : Fits t) where
  pub fits_kept : {u : LeaseTable} → u.deliveries ≡ t.deliveries → u.workers ≡ t.workers → u.redeliveries_since_flush ≡ t.redeliveries_since_flush → Fits u
  fits_kept p q r = record { counts = subst Narrow (sym p) f.counts; workers = subst Narrow (sym q) f.workers; redeliveries = rw r f.redeliveries }

  fits-holding : (at : ℕ) (l : Lease) → l.deliveries ≤ MAX32 → l.worker ≤ MAX32 → Fits (holding at l t)
  fits-holding at l d w =
      let s = slot_in t.slots at in
      record { counts = narrow_set t.deliveries s l.deliveries d f.counts; workers = narrow_set t.workers s l.worker w f.workers; redeliveries = f.redeliveries }

  fits-granting : (at w now d : ℕ) → d ≤ MAX32 → w ≤ MAX32 → Fits (granting at w now d t)
  fits-granting at w now d p q =
      let h = fits-holding at (lease t.next_generation.0 now (deadline_from t.config now now) d w) p q in
      record { counts = h.counts; workers = h.workers; redeliveries = counted-fits t.redeliveries_since_flush d f.redeliveries }

-- ## what each kind of answer owes
module _ {A : Type 0} {w : List ℕ} (ok : Sound w) (ws : List Row) where
  refuses : (r : Refusal) (right : Answer A Table) → first ws ≡ some r → Answers (refused r) w w (guarded ws (view w) right)
  refuses r right e = record { is = sym (guarded-refused ws (view w) right r e); sound = ok; kept = refl }

  takes_effect : (a : A) {w' : List ℕ} {s : Table} → Passed ws → length w' ≡ WORDS → Fits (table_in w') → Shows (table_in w') s → Valid s
      → Answers (done a) w w' (guarded ws (view w) (answer (done a) s))
  takes_effect a {w'} {s} p l f h v =
      record {
        is = ap (answer (done a)) h.is ∙ sym (guarded-passed ws (view w) (answer (done a) s) p);
        sound = record { long = l; table = sound_as h v; fits = f };
        kept = tt;
      }

-- ## a claim that is refused
module _ {w : List ℕ} (ok : Sound w) (wk o now : ℕ) where
  pub claim_in_flight : running (lease_of (view w) o) now ≡ true → Answers (refused InFlight) w w (claim (view w) wk o now)
  unfolding claim
  claim_in_flight h = refuses ok (claim_rows (view w) o now) InFlight _ (rw h)

  module _ (h : running (lease_of (view w) o) now ≡ false) where
    pub claim_exhausted : eqb (word NEXT w) MAX ≡ true → Answers (refused Exhausted) w w (claim (view w) wk o now)
    unfolding claim
    claim_exhausted n = refuses ok (claim_rows (view w) o now) Exhausted _ (rw (h, n))

    pub claim-full : eqb (word NEXT w) MAX ≡ false → (is_none (lease_of (view w) o) && leb LEASES (length (view w).leases)) ≡ true
        → Answers (refused Full) w w (claim (view w) wk o now)
    unfolding claim
    claim-full n f = refuses ok (claim_rows (view w) o now) Full _ (rw (h, n, f))

-- ## a claim that is granted, on a table
module _ (t : LeaseTable) (ok : Whole t) (w o at now : ℕ) where
  first-granted : Placed o (take t.len t.offsets) (Missing at) → t.len < LEASES
      → (c : Span) → Spans o (take t.carried_len t.carried_offsets) t.carried_counts c → (d : ℕ) → d ≡ sat32 c.count 1
      → (next_count (state.view t) o ≡ d) × Shows (granting at w now d (placing at o (passing c t))) (grant (state.view t) w o now)
  first-granted p few c spans d count =
      let f = ok.full in
      let sound = ok.sound in
      let h = free t f sound p refl in
      let q = carried-span t f sound spans in
      let deadline = deadline_from t.config now now in
      let g = t.next_generation.0 in
      let taken = get_or t.slots t.len 0 in
      let slot = slot_in (put_in t.len at taken t.slots) at in
      let is-slot : slot ≡ slot_in t.slots t.len = ap (λ (k : ℕ). k % LEASES) (put_in_at t.len at taken t.slots 0 h.inside (rw f.slots few)) in (
        count-first t o at d h c q count,
        granted-first t ok w o at now d (lease g now deadline d w) refl h few c q count
            (put_in t.len at o t.offsets) (put_in t.len at taken t.slots)
            (set t.generations slot g) (set t.attempt_starts slot now) (set t.deadlines slot deadline) (set t.deliveries slot d) (set t.workers slot w)
            (takenOut t.carried_len c.from c.to t.carried_offsets) (takenOut t.carried_len c.from c.to t.carried_counts)
            (put_in_front t.len at o t.offsets h.inside (rw f.offsets few) refl)
            refl
            (column-set t.generations t.attempt_starts t.deadlines t.deliveries t.workers slot g now deadline d w
            ∙ ap (λ (k : ℕ). set (stored_in t) k (lease g now deadline d w)) is-slot)
            (taken-out-front t.carried_len c.from c.to t.carried_offsets q.order q.inside (within f.carried-offsets sound.carried-len) refl)
            (taken-out-front t.carried_len c.from c.to t.carried_counts q.order q.inside (within f.carried-counts sound.carried-len) refl),
      )

  again-granted : Placed o (take t.len t.offsets) (Found at) → at < LEASES → (d : ℕ) → d ≡ sat32 (held_at at t).deliveries 1
      → (next_count (state.view t) o ≡ d) × Shows (granting at w now d t) (grant (state.view t) w o now)
  again-granted p low d count =
      let f = ok.full in
      let sound = ok.sound in
      let h = leased t f sound p refl in
      let slot = slot_in t.slots at in
      let deadline = deadline_from t.config now now in
      let g = t.next_generation.0 in
      let again : d ≡ sat32 (get_or (leases_in t) at nil).deliveries 1 = rw (stored_at t f sound at low ∙ leases.column-at f.leases slot) count in (
        count-again t o at d h again,
        granted-again t ok w o at now d (lease g now deadline d w) refl h again
            (set t.generations slot g) (set t.attempt_starts slot now) (set t.deadlines slot deadline) (set t.deliveries slot d) (set t.workers slot w)
            (column-set t.generations t.attempt_starts t.deadlines t.deliveries t.workers slot g now deadline d w),
      )

-- ## and on words
pub in_use : {w : List ℕ} → Sound w → (o at : ℕ) → PlacedIn o w (Found at) → at < LEASES
in_use {w} ok o at p = let h = found-used o (word LEN w) (column OFFSETS LEASES w) p refl in omega (arith, ok.table.len)

module _ {w : List ℕ} (ok : Sound w) (wk o at now : ℕ) (fits : o ≤ MAX) (small : wk ≤ MAX32) (unmet : Passed (claim_rows (view w) o now)) where
  -- the words of a grant
  grants : (d : ℕ) → next_count (view w) o ≡ d → (w' : List ℕ) → length w' ≡ WORDS → Fits (table_in w') → Shows (table_in w') (grant (view w) wk o now)
      → (r : Grant) → r ≡ handed_out o d (table_in w) → Answers (done (grant_in r)) w w' (claim (view w) wk o now)
  unfolding claim
  grants d count w' l f shows r is =
      rw (is, ← count)
      (takes_effect ok (claim_rows (view w) o now) (granted (view w) o) unmet l f shows (valid-grant (view w) wk o now fits unmet.1.0 unmet.1.1.0 ok.table.valid))

  pub room-left : PlacedIn o w (Missing at) → word LEN w < LEASES
  room-left p =
      let t = table_in w in
      let f = (whole ok).full in
      omega (arith, (claim-passed (view w) o now unmet).room (free t f ok.table p refl).is, in_flight_lem t f ok.table)

  module _ (w₁ : List ℕ) (prior : ℕ) (passes : Passes o prior (table_in w) (table_in w₁)) (w₂ : List ℕ) (e₂ : table_in w₂ ≡ placing at o (table_in w₁)) where
    abbrev middle : LeaseTable
    middle = placing at o (passing passes.span (table_in w))

    reached : table_in w₂ ≡ middle
    reached = e₂ ∙ ap (placing at o) passes.is

    pub first_fits : Fits (table_in w₂)
    first_fits = subst Fits (sym reached) (fits_kept ok.fits refl refl refl)

    pub first-answers : PlacedIn o w (Missing at) → (d : ℕ) → d ≡ sat32 prior 1 → (w₃ : List ℕ) → length w₃ ≡ WORDS → table_in w₃ ≡ granting at wk now d (table_in w₂)
        → (r : Grant) → r ≡ handed_out o d (table_in w₂) → Answers (done (grant_in r)) w w₃ (claim (view w) wk o now)
    first-answers p d count w₃ l e₃ r is =
        let law = first-granted (table_in w) (whole ok) wk o at now p (room-left p) passes.span passes.spans d (count ∙ ap (λ (k : ℕ). sat32 k 1) passes.counts) in
        grants d law.0 w₃ l (subst Fits (sym e₃) (fits-granting first_fits at wk now d (omega arith) small))
        (subst (λ (u : LeaseTable). Shows u (grant (view w) wk o now)) (sym (e₃ ∙ ap (granting at wk now d) reached)) law.1)
        r (is ∙ ap (handed_out o d) reached)

    -- what the grant requires
    pub generation-left : (table_in w₂).next_generation.0 < MAX
    generation-left =
        omega (arith, (claim-passed (view w) o now unmet).generation-left, ok.table.valid.generation-fits, ap (λ (u : LeaseTable). u.next_generation.0) reached)

  pub again-answers : PlacedIn o w (Found at) → (d : ℕ) → d ≡ sat32 (held_at at (table_in w)).deliveries 1
      → (w' : List ℕ) → length w' ≡ WORDS → table_in w' ≡ granting at wk now d (table_in w)
      → (r : Grant) → r ≡ handed_out o d (table_in w) → Answers (done (grant_in r)) w w' (claim (view w) wk o now)
  again-answers p d count w' l e r is =
      let law = again-granted (table_in w) (whole ok) wk o at now p (in_use ok o at p) d count in
      grants d law.0 w' l (subst Fits (sym e) (fits-granting ok.fits at wk now d (omega arith) small))
      (subst (λ (u : LeaseTable). Shows u (grant (view w) wk o now)) (sym e) law.1) r is

-- ## one lease changed
module _ {w : List ℕ} (ok : Sound w) (at : ℕ) (f : Lease → Lease) where
  -- in a way that keeps its count and its worker
  module _ (counts : (l : Lease) → (f l).deliveries ≡ l.deliveries) (workers : (l : Lease) → (f l).worker ≡ l.worker) where
    changed-fits : Fits (holding at (f (held_at at (table_in w))) (table_in w))
    changed-fits =
        let t = table_in w in
        let s = slot_in t.slots at in
        let l = held_at at t in
        fits-holding ok.fits at (f l) (rw (counts l) (ok.fits.counts s)) (rw (workers l) (ok.fits.workers s))

  changed-shows : (o : ℕ) → PlacedIn o w (Found at) → Shows (holding at (f (held_at at (table_in w))) (table_in w)) (with_leases (view w) (update o f (view w).leases))
  changed-shows o p =
      let t = table_in w in
      let s = slot_in t.slots at in
      let l = f (held_at at t) in
      let full = (whole ok).full in
      record {
        len = ok.table.len;
        carried-len = ok.table.carried-len;
        slots = ok.table.slots;
        is =
            ap (with_leases (view w)) (updated t full ok.table o p refl f _
            (column-set t.generations t.attempt_starts t.deadlines t.deliveries t.workers s l.generation.0 l.attempt_start l.deadline l.deliveries l.worker
            ∙ ap (λ (x : Lease). set (stored_in t) s (f x)) (sym (leases.column-at full.leases s))));
      }

-- ## a token
module _ {w : List ℕ} (ok : Sound w) (o g : ℕ) where
  -- one that owns no lease
  module _ (p : OwnedIn o g w None) where
    pub unowned : owns (lease_of (view w) o) g ≡ false
    unowned = not_owned (table_in w) (whole ok).full ok.table o g p

    pub ack-refused : Answers (refused Fenced) w w (ack (view w) o g)
    unfolding ack
    ack-refused = refuses ok (token_row (view w) o g ∷ []) Fenced _ (rw unowned)

    pub extend-refused : (now : ℕ) → Answers (refused Fenced) w w (extend (view w) o g now)
    unfolding extend
    extend-refused now = refuses ok (extend_rows (view w) o g now) Fenced _ (rw unowned)

    pub nack-refused : (now delay : ℕ) → Answers (refused Fenced) w w (nack (view w) o g now delay)
    unfolding nack
    nack-refused now delay = refuses ok (nack_rows (view w) o g) Fenced _ (rw unowned)

    pub none_held : none ≡ hold (view w) o g
    none_held = rw unowned

  pub owned-low : {at : ℕ} {r : Option ℕ} → OwnedIn o g w r → r ≡ Some at → at < word LEN w
  owned-low p e =
      let t = table_in w in owned-used o g t.len t.offsets t.slots t.generations (subst (OwnedIn o g w) e p)

  -- one that owns the lease at a place
  module _ {at : ℕ} (p : OwnedIn o g w (Some at)) where
    pub its_lease : lease_of (view w) o ≡ some (held_at at (table_in w))
    its_lease = one (table_in w) (whole ok).full ok.table o g p

    pub its_own : owns (lease_of (view w) o) g ≡ true
    its_own = owned (table_in w) (whole ok).full ok.table o g p

    pub held-is : some ((held_at at (table_in w)).deliveries, (held_at at (table_in w)).worker) ≡ hold (view w) o g
    held-is = rw (its_own, its_lease)

    pub ack-answers : (w' : List ℕ) → length w' ≡ WORDS → table_in w' ≡ displacing at (table_in w) → Answers (done tt) w w' (ack (view w) o g)
    ack-answers w' l s =
        let t = table_in w in
        let f = (whole ok).full in
        let law = acked t f ok.table o g p (takenOut t.len at (at + 1) t.offsets) (set (takenOut t.len at (at + 1) t.slots) (t.len - 1) (get_or t.slots at 0))
        (taken-out-front t.len at (at + 1) t.offsets (omega arith) (omega (arith, owned-low p refl)) (within f.offsets ok.table.len) refl) refl in
        record {
          is = subst (λ (u : LeaseTable). answer (done tt) (state.view u) ≡ ack (view w) o g) (sym s) law.is;
          sound = record { long = l; table = subst state.Sound (sym s) law.sound; fits = subst Fits (sym s) (fits_kept ok.fits refl refl refl) };
          kept = tt;
        }

    pub cap_answers : (now : ℕ) → cap_from (config_in w) (held_at at (table_in w)).attempt_start ≤ now → Answers (refused CapReached) w w (extend (view w) o g now)
    unfolding extend
    cap_answers now h = refuses ok (extend_rows (view w) o g now) CapReached _ (rw (its_lease, eq-eqb _ _ p.1, le-leb _ _ h))

    pub extend-answers : (now d : ℕ) → let start = (held_at at (table_in w)).attempt_start in d ≡ deadline_from (config_in w) start now → now < cap_from (config_in w) start
        → (w' : List ℕ) → length w' ≡ WORDS → table_in w' ≡ holding at (with_deadline d (held_at at (table_in w))) (table_in w) → Answers (done d) w w' (extend (view w) o g now)
    unfolding extend
    extend-answers now d e h w' l s =
        let to = extended (view w) o now in
        let same : d ≡ to = rw its_lease e in
        let at_last : table_in w' ≡ holding at (with_deadline to (held_at at (table_in w))) (table_in w) = s ∙ ap (λ (k : ℕ). holding at (with_deadline k (held_at at (table_in w))) (table_in w)) same in
        rw same
        (takes_effect ok (extend_rows (view w) o g now) to (rw its_own, (rw (its_lease, lt-leb _ _ h), tt)) l
        (subst Fits (sym at_last) (changed-fits ok at (with_deadline to) (λ x. refl) (λ x. refl)))
        (subst (λ (u : LeaseTable). Shows u (with_leases (view w) (update o (with_deadline to) (view w).leases))) (sym at_last) (changed-shows ok at (with_deadline to) o p.0))
        (valid-update (view w) o (with_deadline to) (λ x. refl) ok.table.valid))

    pub nack_exhausted : (now delay : ℕ) → eqb (word NEXT w) MAX ≡ true → Answers (refused Exhausted) w w (nack (view w) o g now delay)
    unfolding nack
    nack_exhausted now delay n = refuses ok (nack_rows (view w) o g) Exhausted _ (rw (its_own, n))

    pub nack-answers : (now delay d : ℕ) → eqb (word NEXT w) MAX ≡ false → d ≡ sat64 now delay → (w' : List ℕ) → length w' ≡ WORDS
        → table_in w' ≡ numbered (word NEXT w + 1) (word REDELIVERIES w) (holding at (requeued_as (word NEXT w) d (held_at at (table_in w))) (table_in w))
        → Answers (done d) w w' (nack (view w) o g now delay)
    unfolding nack
    nack-answers now delay d n e w' l s =
        let to = sat64 now delay in
        let next = word NEXT w in
        let f = requeued_as next to in
        let at_last : table_in w' ≡ numbered (next + 1) (word REDELIVERIES w) (holding at (f (held_at at (table_in w))) (table_in w)) =
        s ∙ ap (λ (k : ℕ). numbered (next + 1) (word REDELIVERIES w) (holding at (requeued_as next k (held_at at (table_in w))) (table_in w))) e in
        let fits = changed-fits ok at f (λ x. refl) (λ x. refl) in
        let shows = changed-shows ok at f o p.0 in
        rw e
        (takes_effect ok (nack_rows (view w) o g) to (rw its_own, (n, tt)) l
        (subst Fits (sym at_last) (fits_kept fits refl refl refl))
        (subst (λ (u : LeaseTable). Shows u (requeue (view w) o to)) (sym at_last)
        (record { len = shows.len; carried-len = shows.carried-len; slots = shows.slots; is = ap with_next shows.is }))
        (valid-requeue (view w) o to n ok.table.valid))

-- ## changes that may find nothing to change
module _ {w : List ℕ} (ok : Sound w) (o : ℕ) where
  -- the lease changed
  changes : (at : ℕ) (f : Lease → Lease) → ((l : Lease) → (f l).deliveries ≡ l.deliveries) → ((l : Lease) → (f l).worker ≡ l.worker) → PlacedIn o w (Found at)
      → (w' : List ℕ) → length w' ≡ WORDS → table_in w' ≡ holding at (f (held_at at (table_in w))) (table_in w)
      → {right : Answer Bool Table} → right ≡ answer (done true) (with_leases (view w) (update o f (view w).leases)) → Tries true w w' right
  changes at f counts workers p w' l s e =
      let shows = subst (λ (u : LeaseTable). Shows u (with_leases (view w) (update o f (view w).leases))) (sym s) (changed-shows ok at f o p) in
      record {
        is = ap (answer (done true)) shows.is ∙ sym e;
        sound =
            record {
              long = l;
              table = sound_as shows (valid-update (view w) o f counts ok.table.valid);
              fits = subst Fits (sym s) (changed-fits ok at f counts workers);
            };
        kept = λ h. absurd (true≢false h);
      }

  module _ (from to : ℕ) where
    pub not_resealed : OwnedIn o from w None → Tries false w w (reseal_from_to (view w) o from to)
    unfolding reseal_from_to
    not_resealed p = record { is = rw (unowned ok o from p); sound = ok; kept = λ _. refl }

    pub resealed : {at : ℕ} → OwnedIn o from w (Some at) → (w' : List ℕ) → length w' ≡ WORDS
        → table_in w' ≡ holding at (resealed_as to (held_at at (table_in w))) (table_in w) → Tries true w w' (reseal_from_to (view w) o from to)
    unfolding reseal_from_to
    resealed {at} p w' l s = changes at (resealed_as to) (λ x. refl) (λ x. refl) p.0 w' l s (rw (its_own ok o from p))

  module _ (now delay : ℕ) where
    pub not_deferred : is_expired (lease_of (view w) o) now ≡ false → Tries false w w (defer_redelivery (view w) o now delay)
    unfolding defer_redelivery
    not_deferred h = record { is = rw h; sound = ok; kept = λ _. refl }

    pub deferred : {at : ℕ} → PlacedIn o w (Found at) → (held_at at (table_in w)).deadline ≤ now → (d : ℕ) → d ≡ sat64 now delay → (w' : List ℕ) → length w' ≡ WORDS
        → table_in w' ≡ holding at (with_deadline d (held_at at (table_in w))) (table_in w) → Tries true w w' (defer_redelivery (view w) o now delay)
    unfolding defer_redelivery
    deferred {at} p h d e w' l s =
        changes at (with_deadline d) (λ x. refl) (λ x. refl) p w' l s
        (rw (run_out (view w) o now _ (lease-at (table_in w) (whole ok).full ok.table o p refl) h, e))

-- ## the counter cleared
pub flush_answers : {w : List ℕ} → Sound w → (v : ℕ) → v ≡ 0 → Becomes (set w REDELIVERIES v) (attempts_flushed (view w))
flush_answers {w} ok v e =
    let shows : table_in (set w REDELIVERIES v) ≡ numbered (word NEXT w) 0 (table_in w) = stored-redeliveries w ok.long v ∙ ap (λ (k : ℕ). numbered (word NEXT w) k (table_in w)) e in
    record {
      is = ap state.view shows;
      sound =
          record {
            long = length-set w REDELIVERIES v ∙ ok.long;
            table =
                subst state.Sound (sym shows)
                (record { len = ok.table.len; carried-len = ok.table.carried-len; slots = ok.table.slots; valid = valid-flushed (view w) ok.table.valid });
            fits = subst Fits (sym shows) (record { counts = ok.fits.counts; workers = ok.fits.workers; redeliveries = omega arith });
          };
    }

-- ## an empty table
zero-at : (n i : ℕ) → get_or {A = ℕ} (replicate n 0) i 0 ≡ 0
zero-at zero i = refl
zero-at (suc n) zero = refl
zero-at (suc n) (suc i) = zero-at n i

abbrev zeros : List ℕ
zeros = replicate WORDS 0

narrow_zeros : (from : ℕ) → from + LEASES ≤ WORDS → Narrow (column from LEASES zeros)
narrow_zeros from h i =
    let inside : from + LEASES ≤ length zeros = omega (arith, length-replicate {A = ℕ} WORDS 0) in
    let long = column-length from LEASES zeros inside in
    split (ltb i LEASES)
    (λ q. omega (arith, column-at from LEASES zeros i (ltb-true i LEASES q), zero-at WORDS (from + i)))
    (λ q. omega (arith, get_or-eq_default (column from LEASES zeros) 0 {n = i} (omega (arith, long, ltb-false i LEASES q))))

start-answers : (c : LeaseConfig) (g : ℕ) → g ≤ MAX → (slots : List ℕ) → slots ≡ upTo LEASES → (w : List ℕ) → length w ≡ WORDS
    → let z = table_in (replicate WORDS 0) in table_in w ≡ configured c (numbered g z.redeliveries_since_flush (removing z.len z.offsets slots z)) → Becomes w (starting_at c g)
start-answers c g h slots e w l s =
    record {
      is = ap state.view s;
      sound =
          record {
            long = l;
            table =
                subst state.Sound (sym s)
                (record { len = omega arith; carried-len = omega arith; slots = subst (Permutes LEASES) (sym e) (permutes_up_to LEASES); valid = valid-start c g h });
            fits = subst Fits (sym s) (record { counts = narrow_zeros DELIVERIES (omega arith); workers = narrow_zeros WORKERS (omega arith); redeliveries = omega arith });
          };
    }

-- made of any words: all of them cleared, the slots stored, and then the numbers
pub started : (w : List ℕ) → w ≡ replicate WORDS 0 → (slots : List ℕ) → length slots ≡ length (take LEASES (drop SLOTS w)) → slots ≡ upTo (length (take LEASES (drop SLOTS w)))
    → (c : LeaseConfig) (g : ℕ) → g ≤ MAX
    → Becomes (set (set (set (put_mid SLOTS LEASES w slots) NEXT g) VISIBILITY c.visibility_nanos) HARD-CAP c.hard_cap_nanos) (starting_at c g)
started w e slots m q c g h =
    let v = c.visibility_nanos in
    let k = c.hard_cap_nanos in
    let l : length w ≡ WORDS = ap length e ∙ length-replicate {A = ℕ} WORDS 0 in
    let w1 = put_mid SLOTS LEASES w slots in
    let l1 : length w1 ≡ WORDS = same_len_mid SLOTS LEASES w slots m ∙ l in
    let part : length (take LEASES (drop SLOTS w)) ≡ LEASES = ap length (column-is SLOTS LEASES w) ∙ column-length SLOTS LEASES w (omega arith) in
    start-answers c g h slots (q ∙ ap upTo part) (set (set (set w1 NEXT g) VISIBILITY v) HARD-CAP k)
    (length-set (set (set w1 NEXT g) VISIBILITY v) HARD-CAP k ∙ length-set (set w1 NEXT g) VISIBILITY v ∙ length-set w1 NEXT g ∙ l1)
    (start-stored w1 l1 g v k
    ∙ ap (λ (t : LeaseTable). configured c (numbered g t.redeliveries_since_flush t))
    (ap table_in (spliced-is SLOTS LEASES w slots) ∙ spliced-slots w l slots (m ∙ part)
    ∙ ap (λ (x : List ℕ). removing (table_in x).len (table_in x).offsets slots (table_in x)) e))

-- ## a carried count
pub carried_narrow : {w : List ℕ} → Sound w → (i : ℕ) → i < word CARRIED-LEN w → word (CARRIED-COUNTS + i) w ≤ MAX32
carried_narrow {w} ok i h =
    let t = table_in w in
    let full = (whole ok).full in
    let o = get_or (take t.carried_len t.carried_offsets) i 0 in
    let long : length (take t.carried_len t.carried_offsets) ≡ t.carried_len = length-take-le t.carried_len t.carried_offsets (within full.carried-offsets ok.table.carried-len) in
    let p : Placed o (take t.carried_len t.carried_offsets) (Found i) = (rw long h, refl) in
    let low : i < CARRIED = omega (arith, ok.table.carried-len) in
    rw (column-at CARRIED-COUNTS CARRIED w i low) at (lookup-all Counted o (get_or t.carried_counts i 0) (view w).carried ok.table.valid.carried-counted (carried t full ok.table p refl).is).count_fits

-- ## clocks forward
pub shift-answers : {w : List ℕ} → Sound w → (delta : ℕ) (ss ds : List ℕ) → ss ≡ map (later_by delta) (table_in w).attempt_starts → ds ≡ map (later_by delta) (table_in w).deadlines
    → (w' : List ℕ) → length w' ≡ WORDS → table_in w' ≡ timed ss ds (table_in w) → Becomes w' (shift_deadlines (view w) delta)
shift-answers {w} ok delta ss ds p q w' l s =
    let law = shifts (table_in w) (whole ok).full ok.table delta ss ds p q in
    record {
      is = ap state.view s ∙ law.is;
      sound =
          record {
            long = l;
            table = subst state.Sound (sym s) law.sound;
            fits = subst Fits (sym s) (fits_kept ok.fits refl refl refl);
          };
    }

-- ## released below a bound
module _ {w : List ℕ} (ok : Sound w) (b : ℕ) (w₁ : List ℕ) (c : CountsReleased b (table_in w) (table_in w₁)) (w₂ : List ℕ) (r : LeasesReleased b (table_in w₁) (table_in w₂)) where
  abbrev t : LeaseTable
  t = table_in w

  pub release_answers : length w₂ ≡ WORDS → Becomes w₂ (release_below (view w) b)
  release_answers l =
      let f = (whole ok).full in
      let sound = ok.table in
      let k = c.to in
      let n = r.to in
      let at = subst (λ (u : LeaseTable). Boundary b (take u.len u.offsets) n) c.is r.at in
      let used = boundary_inside b t.len t.offsets at in
      let kept = boundary_inside b t.carried_len t.carried_offsets c.at in
      let less : t.carried_len - k ≡ t.carried_len - (k - 0) = omega arith in
      let shows : table_in w₂ ≡ releasing (t.len - n) (t.carried_len - k) (takenOut t.len 0 n t.offsets) (set_aside t.len 0 n t.slots)
      (takenOut t.carried_len 0 k t.carried_offsets) (takenOut t.carried_len 0 k t.carried_counts) t =
      r.is ∙ ap (λ (u : LeaseTable). removing (u.len - n) (takenOut u.len 0 n u.offsets) (set_aside u.len 0 n u.slots) u) c.is
      ∙ ap (λ (m : ℕ). releasing (t.len - n) m (takenOut t.len 0 n t.offsets) (set_aside t.len 0 n t.slots)
      (takenOut t.carried_len 0 k t.carried_offsets) (takenOut t.carried_len 0 k t.carried_counts) t) (sym less) in
      let law = releases t f sound b n k (takenOut t.len 0 n t.offsets) (set_aside t.len 0 n t.slots)
      (takenOut t.carried_len 0 k t.carried_offsets) (takenOut t.carried_len 0 k t.carried_counts) at c.at used
      (taken-out-front t.len 0 n t.offsets (from_first n) used (within f.offsets sound.len) refl) refl
      (taken-out-front t.carried_len 0 k t.carried_offsets (from_first k) kept (within f.carried-offsets sound.carried-len) refl)
      (taken-out-front t.carried_len 0 k t.carried_counts (from_first k) kept (within f.carried-counts sound.carried-len) refl) in
      record {
        is = ap state.view shows ∙ law.is;
        sound =
            record {
              long = l;
              table = subst state.Sound (sym shows) law.sound;
              fits = subst Fits (sym shows) (fits_kept ok.fits refl refl refl);
            };
      }
