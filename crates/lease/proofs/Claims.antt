-- What a claim owes its contract at each of its answers, over the place that was found.
-- Assumes nothing.
use Prim.Native.Nat.{ℕ, ◌+◌, ◌-◌, ◌≤◌, ◌<◌}
use native.Mathlib.Omega.{arith}
use mathlib.Core.Path.{◌≡◌, sym, ap, ◌∙◌}
use mathlib.Core.Bool.{true, false, ◌&&◌}
use mathlib.Core.List.{List}
use mathlib.Core.Option.{none}
use lib.Dec.{leb}
use lib.ListN.{length, take, get_or, set}
use borrow.Author.Tests.{le-leb, lt-leb, eq-eqb, ne_eqb}
use Rattle.types.specs.Limits.{MAX, LEASES, sat32}
use Rattle.types.specs.Refusal.{refused, done, InFlight, Exhausted, Full}
use Rattle.types.specs.Keyed.{Entry, put}
use Rattle.types.specs.Zipped.{inserted, removed}
use Rattle.lease.specs.State.{Table, Sound, view, lease_column, nil, stored_in, leases_in, leases_of, carried_of}
use Rattle.redeliveries.specs.Counter.{after_grant}
use Rattle.lease.specs.Operations.{lease, lease_of, is_none, running, deadline_from, next_count, consumed, grant_of, grant, granted, claim_rows, claim}
use Rattle.lease.specs.Answers.{Answers}
use Rattle.lease.specs.declared.Lease.{Lease}
use Rattle.lease.specs.declared.LeaseTable.{LeaseTable}
use Rattle.tables.specs.Columns.{put_in}
use Rattle.tables.specs.Slots.{through}
use Rattle.tables.specs.declared.counts.Span.{Span}
use Rattle.tables.proofs.Slots.{through-put, slots-put}
use Rattle.tables.proofs.Places.{Spanned}
use Rattle.lease.specs.Parts.{gathered, Whole, slot_in}
use Rattle.lease.proofs.Leases.{column-length}
use Rattle.lease.proofs.Slots.{Leased, Free, slot_is, stores_at}
use Rattle.lease.proofs.Returns.{Shows, refuses, takes_effect}
use Rattle.lease.proofs.Valid.{valid-grant}

-- ## the answers
module _ (t : LeaseTable) (ok : Sound t) (w o now : ℕ) where
  pub claim_in_flight : running (lease_of (view t) o) now ≡ true → Answers (refused InFlight) t t (claim (view t) w o now)
  unfolding claim
  claim_in_flight h = refuses t ok (claim_rows (view t) o now) InFlight _ (rw h)

  module _ (h : running (lease_of (view t) o) now ≡ false) where
    pub claim_exhausted : t.next_generation.0 ≡ MAX → Answers (refused Exhausted) t t (claim (view t) w o now)
    unfolding claim
    claim_exhausted n = refuses t ok (claim_rows (view t) o now) Exhausted _ (rw (h, eq-eqb t.next_generation.0 MAX n))

    module _ (n : t.next_generation.0 ≡ MAX → ⊥) where
      pub claim-full : lease_of (view t) o ≡ none → LEASES ≤ length (leases_of t) → Answers (refused Full) t t (claim (view t) w o now)
      unfolding claim
      claim-full e f =
          refuses t ok (claim_rows (view t) o now) Full _
          (rw (h, ne_eqb t.next_generation.0 MAX n) (rw (e, le-leb LEASES (length (leases_of t)) f)))

      pub claimed : (is_none (lease_of (view t) o) && leb LEASES (length (leases_of t))) ≡ false → o ≤ MAX
          → (d : ℕ) → next_count (view t) o ≡ d → {after : LeaseTable} → Shows after (grant (view t) w o now)
          → Answers (done (grant_of o t.next_generation.0 d)) t after (claim (view t) w o now)
      unfolding claim
      claimed f m d p s =
          let g = ne_eqb t.next_generation.0 MAX n in
          rw (← p) (takes_effect t ok (claim_rows (view t) o now) (granted (view t) o) (h, (g, (f, tt))) s (valid-grant (view t) w o now m g f ok.valid))

-- there is room for a first lease
pub room-first : (t : LeaseTable) (o at : ℕ) → Free t o at → length (leases_of t) ≡ t.len → t.len < LEASES → (is_none (lease_of (view t) o) && leb LEASES (length (leases_of t))) ≡ false
room-first t o at here n h = rw here.is (lt-leb LEASES (length (leases_of t)) (omega arith))

-- ## the table after a grant
-- the generation taken, the grant counted, with these leases and these carried counts
abbrev made : Table → List (Entry Lease) → List (Entry ℕ) → ℕ → Table
made s l c d = record { config = s.config; leases = l; carried = c; next_generation = s.next_generation + 1; redeliveries = after_grant s.redeliveries d }

made-grant : (s : Table) (w o now d : ℕ) (l : List (Entry Lease)) (c : List (Entry ℕ)) → next_count s o ≡ d
    → l ≡ put o (lease s.next_generation now (deadline_from s.config now now) d w) s.leases → c ≡ consumed (lease_of s o) o s.carried
    → made s l c d ≡ grant s w o now
made-grant s w o now d l c e p q = rw (p, q, ← e)

-- the count that is handed out, where there is a lease and where there is none
pub count-again : (t : LeaseTable) (o at d : ℕ) → Leased t o at → d ≡ sat32 (get_or (leases_in t) at nil).deliveries 1 → next_count (view t) o ≡ d
count-again t o at d here e = rw here.is (sym e)

pub count-first : (t : LeaseTable) (o at d : ℕ) → Free t o at → (c : Span) → Spanned t.carried_len t.carried_offsets t.carried_counts o c
    → d ≡ sat32 c.count 1 → next_count (view t) o ≡ d
count-first t o at d here c prior e = rw (here.is, ← prior.count) (sym e)

module _ (t : LeaseTable) (full : Whole t) (w o at now d : ℕ) where
  -- a table of these columns after a grant
  abbrev after : List ℕ → List ℕ → List ℕ → List ℕ → List ℕ → List ℕ → List ℕ → ℕ → List ℕ → List ℕ → ℕ → LeaseTable
  after ks slots gs ss ds ns ws n cks cvs m = gathered t.config n m (t.next_generation.0 + 1) (after_grant t.redeliveries_since_flush d) ks slots gs ss ds ns ws cks cvs

  module _ (new : Lease) (is-new : new ≡ lease t.next_generation.0 now (deadline_from t.config now now) d w) where
    pub granted-again : Leased t o at → d ≡ sat32 (get_or (leases_in t) at nil).deliveries 1
        → (gs ss ds ns ws : List ℕ) → lease_column gs ss ds ns ws ≡ set (stored_in t) (slot_in t.slots at) new
        → Shows (after t.offsets t.slots gs ss ds ns ws t.len t.carried_offsets t.carried_counts t.carried_len) (grant (view t) w o now)
    granted-again here e gs ss ds ns ws q =
        let ok = full.sound in
        let column : through nil t.slots (lease_column gs ss ds ns ws) ≡ set (leases_in t) at new = ap (through nil t.slots) q ∙ stores_at t full.full ok at (omega (arith, here.inside, ok.len)) new in
        record {
          len = ok.len;
          carried-len = ok.carried-len;
          slots = ok.slots;
          is = made-grant (view t) w o now d _ (carried_of t) (count-again t o at d here e) (rw column (here.put new ∙ ap (λ (l : Lease). put o l (leases_of t)) is-new)) (rw here.is);
        }

    pub granted-first : Free t o at → t.len < LEASES → (c : Span) → Spanned t.carried_len t.carried_offsets t.carried_counts o c
        → d ≡ sat32 c.count 1 → (ks slots gs ss ds ns ws cks cvs : List ℕ)
        → take (t.len + 1) ks ≡ inserted at o (take t.len t.offsets)
        → slots ≡ put_in t.len at (get_or t.slots t.len 0) t.slots → lease_column gs ss ds ns ws ≡ set (stored_in t) (slot_in t.slots t.len) new
        → take (t.carried_len - (c.to - c.from)) cks ≡ removed c.from c.to (take t.carried_len t.carried_offsets)
        → take (t.carried_len - (c.to - c.from)) cvs ≡ removed c.from c.to (take t.carried_len t.carried_counts)
        → Shows (after ks slots gs ss ds ns ws (t.len + 1) cks cvs (t.carried_len - (c.to - c.from))) (grant (view t) w o now)
    granted-first here room c prior e ks slots gs ss ds ns ws cks cvs p i q v x =
        let ok = full.sound in
        let there : t.len < length t.slots = omega (arith, full.full.slots) in
        let column : take (t.len + 1) (through nil slots (lease_column gs ss ds ns ws)) ≡ inserted at new (take t.len (leases_in t)) =
        ap (λ (l : List Lease). take (t.len + 1) (through nil slots l)) (q ∙ ap (λ (s : ℕ). set (stored_in t) s new) (slot_is t full.full ok t.len room))
        ∙ through-put nil ok.slots (stored_in t) (omega (arith, column-length full.full.leases)) t.len at new here.inside there i in
        record {
          len = omega arith;
          carried-len = omega (arith, ok.carried-len);
          slots = slots-put ok.slots t.len at here.inside there i;
          is =
              made-grant (view t) w o now d _ _
              (count-first t o at d here c prior e)
              (rw (p, column) (here.put new ∙ ap (λ (l : Lease). put o l (leases_of t)) is-new))
              (rw (here.is, v, x) prior.gone);
        }
