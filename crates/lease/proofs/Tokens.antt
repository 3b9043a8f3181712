-- What a call with a token owes its contract at each of its answers, over the place that the search found.
-- Assumes nothing.
use Prim.Native.Nat.{ℕ, ◌+◌, ◌-◌, ◌≤◌, ◌<◌}
use native.Mathlib.Omega.{arith}
use mathlib.Core.Path.{◌≡◌, refl, ap}
use mathlib.Core.Bool.{true, false}
use mathlib.Core.List.{List, [], ◌∷◌}
use mathlib.Core.Option.{some}
use lib.ListN.{length, take, get_or, set}
use borrow.Author.Tests.{le-leb, lt-leb, eq-eqb, ne_eqb}
use Rattle.types.specs.Limits.{MAX, sat64}
use Rattle.types.specs.Refusal.{refused, done, Fenced, Exhausted, CapReached}
use Rattle.types.specs.Keyed.{Entry}
use Rattle.types.specs.Zipped.{removed}
use Rattle.tables.specs.Search.{Placed}
use Rattle.tables.specs.Columns.{takenOut}
use Rattle.tables.proofs.Search.{found-used}
use Rattle.tables.proofs.Slots.{through-out, one_aside, aside_front, slots_aside}
use Rattle.tables.specs.declared.Place.{Place}
use Rattle.tables.specs.declared.Place.TheVariants.{Found, Missing}
use Rattle.lease.specs.State.{Table, Sound, view, nil, stored_in, with_leases}
use Rattle.lease.specs.Operations.{lease, lease_of, owns, token_row, ack, cap_from, deadline_from, with_deadline, extend_rows, extended, extend, nack_rows, requeued_as, nack}
use Rattle.lease.specs.Answers.{Answers}
use Rattle.lease.specs.Helpers.{Differs, Unowned}
use Rattle.lease.specs.Parts.{Full, slot_in, OwnedAt, removing, extending, requeuing}
use Rattle.lease.specs.declared.Lease.{Lease}
use Rattle.lease.specs.declared.LeaseTable.{LeaseTable}
use Rattle.lease.proofs.Leases.{column-deadline, column_requeued}
use Rattle.lease.proofs.Slots.{Leased, leased, free, lease-at, updated}
use Rattle.lease.proofs.Returns.{refuses, takes_effect}
use Rattle.lease.proofs.Valid.{valid-update, valid-ack, valid-requeue}

abbrev pub with_next : Table → Table
with_next s = record { config = s.config; leases = s.leases; carried = s.carried; next_generation = s.next_generation + 1; redeliveries = s.redeliveries }

-- ## a token
-- the place of the lease that it owns is in use
pub owned-used : (o g len : ℕ) (keys slots gs : List ℕ) {at : ℕ} → OwnedAt o g (take len keys) slots gs at → at < len
owned-used o g len keys slots gs p = omega (arith, found-used o len keys p.0 refl)

module _ (t : LeaseTable) (full : Full t) (ok : Sound t) (o g : ℕ) where
  -- ## one that owns no lease
  differs-there : (r : Place) → Placed o (take t.len t.offsets) r → Differs g t.slots t.generations r → owns (lease_of (view t) o) g ≡ false
  differs-there (Found at) p d = rw (lease-at t full ok o p refl) (ne_eqb _ _ d)
  differs-there (Missing at) p d = rw (free t full ok p refl).is

  pub not_owned : Unowned o g (take t.len t.offsets) t.slots t.generations → owns (lease_of (view t) o) g ≡ false
  not_owned u = differs-there u.place u.placed u.differs

  module _ (h : owns (lease_of (view t) o) g ≡ false) where
    pub ack-fenced : Answers (refused Fenced) t t (ack (view t) o g)
    unfolding ack
    ack-fenced = refuses t ok (token_row (view t) o g ∷ []) Fenced _ (rw h)

    pub extend-fenced : (now : ℕ) → Answers (refused Fenced) t t (extend (view t) o g now)
    unfolding extend
    extend-fenced now = refuses t ok (extend_rows (view t) o g now) Fenced _ (rw h)

    pub nack-fenced : (now delay : ℕ) → Answers (refused Fenced) t t (nack (view t) o g now delay)
    unfolding nack
    nack-fenced now delay = refuses t ok (nack_rows (view t) o g) Fenced _ (rw h)

  -- ## one that owns the lease at a place
  module _ {at : ℕ} (p : OwnedAt o g (take t.len t.offsets) t.slots t.generations at) where
    here : Leased t o at
    here = leased t full ok p.0 refl

    pub one : let s = slot_in t.slots at in lease_of (view t) o ≡ some (lease (get_or t.generations s 0) (get_or t.attempt_starts s 0) (get_or t.deadlines s 0) (get_or t.deliveries s 0) (get_or t.workers s 0))
    one = lease-at t full ok o p.0 refl

    pub owned : owns (lease_of (view t) o) g ≡ true
    owned = rw one (eq-eqb _ _ p.1)

    -- ## ack
    pub acked : (ks slots : List ℕ) → take (t.len - (at + 1 - at)) ks ≡ removed at (at + 1) (take t.len t.offsets)
        → slots ≡ set (takenOut t.len at (at + 1) t.slots) (t.len - 1) (get_or t.slots at 0)
        → Answers (done tt) t (removing (t.len - 1) ks slots t) (ack (view t) o g)
    unfolding ack
    acked ks slots v i =
        let z : t.len - 1 ≡ t.len - (at + 1 - at) = omega arith in
        let h : at < t.len = here.inside in
        let room : t.len ≤ length t.slots = omega (arith, full.slots, ok.len) in
        let aside = one_aside t.len at t.slots h room i in
        let w = through-out nil (t.len - (at + 1 - at)) t.len at (at + 1) t.slots slots (stored_in t) (aside_front t.len at (at + 1) t.slots (omega arith) (omega arith) room aside) in
        takes_effect t ok (token_row (view t) o g ∷ []) tt (rw owned, tt)
        (record {
          len = omega (arith, ok.len);
          carried-len = ok.carried-len;
          slots = slots_aside t.len at (at + 1) t.slots (omega arith) (omega arith) room ok.slots aside;
          is = ap (with_leases (view t)) (rw (z, v, w) here.gone);
        })
        (valid-ack (view t) o ok.valid)

    -- ## extend
    pub cap_reached : (now : ℕ) → cap_from t.config (get_or t.attempt_starts (slot_in t.slots at) 0) ≤ now → Answers (refused CapReached) t t (extend (view t) o g now)
    unfolding extend
    cap_reached now k = refuses t ok (extend_rows (view t) o g now) CapReached _ (rw (one, eq-eqb _ _ p.1, le-leb _ _ k))

    pub extended-to : (now d : ℕ) → let s = slot_in t.slots at in d ≡ deadline_from t.config (get_or t.attempt_starts s 0) now → now < cap_from t.config (get_or t.attempt_starts s 0)
        → Answers (done d) t (extending t.config t.slots t.attempt_starts (set t.deadlines s d) t) (extend (view t) o g now)
    unfolding extend
    extended-to now d i k =
        let same : d ≡ extended (view t) o now = rw one i in
        rw same
        (takes_effect t ok (extend_rows (view t) o g now) (extended (view t) o now)
        (rw owned, (rw (one, lt-leb _ _ k), tt))
        (record {
          len = ok.len;
          carried-len = ok.carried-len;
          slots = ok.slots;
          is = ap (with_leases (view t)) (updated t full ok o p.0 refl (with_deadline (extended (view t) o now)) _ (column-deadline full.leases (slot_in t.slots at) (extended (view t) o now)));
        })
        (valid-update (view t) o (with_deadline (extended (view t) o now)) (λ v. refl) ok.valid))

    -- ## nack
    pub none_left : t.next_generation.0 ≡ MAX → (now delay : ℕ) → Answers (refused Exhausted) t t (nack (view t) o g now delay)
    unfolding nack
    none_left n now delay = refuses t ok (nack_rows (view t) o g) Exhausted _ (rw (owned, eq-eqb _ _ n))

    pub requeued_to : (t.next_generation.0 ≡ MAX → ⊥) → (now delay d : ℕ) → d ≡ sat64 now delay
        → let s = slot_in t.slots at in Answers (done d) t (requeuing (t.next_generation.0 + 1) t.slots (set t.generations s t.next_generation.0) (set t.deadlines s d) t) (nack (view t) o g now delay)
    unfolding nack
    requeued_to n now delay d i =
        let left = ne_eqb t.next_generation.0 MAX n in
        rw i
        (takes_effect t ok (nack_rows (view t) o g) (sat64 now delay)
        (rw owned, (left, tt))
        (record {
          len = ok.len;
          carried-len = ok.carried-len;
          slots = ok.slots;
          is = ap (λ (l : List (Entry Lease)). with_next (with_leases (view t) l)) (updated t full ok o p.0 refl (requeued_as t.next_generation.0 (sat64 now delay)) _ (column_requeued full.leases (slot_in t.slots at) t.next_generation.0 (sat64 now delay)));
        })
        (valid-requeue (view t) o (sat64 now delay) left ok.valid))
