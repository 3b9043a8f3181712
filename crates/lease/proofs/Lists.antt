-- What the lists of a table's counts and offsets show.
-- Assumes nothing.
use Prim.Native.Nat.{ℕ, ◌+◌, ◌≤◌, ◌<◌}
use native.Mathlib.Omega.{arith}
use native.Mathlib.Numerals.{add-one}
use mathlib.Core.Path.{◌≡◌, sym, ap, ◌∙◌}
use mathlib.Core.List.{List, [], ◌∷◌, ◌++◌, map, append-nil}
use lib.ListN.{length, take, drop, get_or, set, length-set, replicate}
use lib.Seq.{take-suc-set, append_snoc}
use borrow.Author.Tests.{le-ltb, lt-ltb}
use Rattle.types.specs.Limits.{LEASES}
use Rattle.types.specs.Keyed.{entry, entries}
use Rattle.types.proofs.Scan.{map-take}
use Rattle.types.proofs.Loops.{rest_more}
use Rattle.types.proofs.Columns.{drop-used, drop-unused, entries-map}
use Rattle.tables.specs.Slots.{through}
use Rattle.tables.proofs.Slots.{through-length, through-at, through-told}
use Rattle.lease.specs.State.{Sound, view, nil, stored_in, leases_in, leases_of}
use Rattle.lease.specs.Operations.{lease}
use Rattle.lease.specs.Counts.{attempt_counts}
use Rattle.lease.specs.Rest.{expired_offsets}
use Rattle.lease.specs.Parts.{Full, Whole, HoldsIn, slot_in, timing}
use Rattle.lease.specs.declared.Lease.{Lease}
use Rattle.lease.specs.declared.LeaseTable.{LeaseTable}
use Rattle.lease.proofs.Leases.{column-at, column-counts}
use Rattle.lease.proofs.Slots.{slot_is, stored_at}

-- ## the counts of the leases
pub counts-listed : (t : LeaseTable) → Full t → (ks ns : List ℕ) → take t.len ks ≡ take t.len t.offsets → take t.len ns ≡ take t.len (through 0 t.slots t.deliveries)
    → entries (take t.len ks) (take t.len ns) ≡ attempt_counts (view t)
counts-listed t full ks ns p q =
    let count : Lease → ℕ = λ l. l.deliveries in
    let same : map count (leases_in t) ≡ through 0 t.slots t.deliveries = through-told count nil t.slots (stored_in t) ∙ ap (through 0 t.slots) (column-counts full.leases) in
    let e : take t.len ns ≡ map count (take t.len (leases_in t)) = q ∙ ap (take t.len) (sym same) ∙ sym (map-take count t.len (leases_in t)) in
    rw (p, e) (entries-map count (take t.len t.offsets) (take t.len (leases_in t)))

-- the count at a place, as it is stored
pub count_at : (t : LeaseTable) → Full t → Sound t → (i : ℕ) → i < LEASES → get_or (through 0 t.slots t.deliveries) i 0 ≡ get_or t.deliveries (slot_in t.slots i) 0
count_at t full ok i h = through-at 0 t.slots t.deliveries i (omega (arith, full.slots)) ∙ ap (λ (s : ℕ). get_or t.deliveries s 0) (sym (slot_is t full ok i h))

-- ## the offsets of expired leases
-- those before i are listed, on every table with these parts
pub record Listing (len now : ℕ) (ks slots ds offsets : List ℕ) (n i : ℕ) : Type 0 where
  pub inside : i ≤ len
  pub few : n ≤ i
  pub full-list : length offsets ≡ 128
  pub is : HoldsIn (timing len ks slots ds) (λ s. take n offsets ++ expired_offsets now (drop i s.leases) ≡ expired_offsets now s.leases)
  pub rest : drop n offsets ≡ drop n (replicate 128 0)

-- the lease at a place in use, and none behind
module _ (t : LeaseTable) (w : Whole t) where
  fits : t.len ≤ length t.offsets
  fits = omega (arith, w.full.offsets, w.sound.len)

  fits' : t.len ≤ length (leases_in t)
  fits' = omega (arith, through-length nil t.slots (stored_in t), w.full.slots, w.sound.len)

  head : (i : ℕ) → i < t.len → let s = slot_in t.slots i in
      drop i (leases_of t) ≡ entry (get_or t.offsets i 0) (lease (get_or t.generations s 0) (get_or t.attempt_starts s 0) (get_or t.deadlines s 0) (get_or t.deliveries s 0) (get_or t.workers s 0)) ∷ drop (i + 1) (leases_of t)
  head i h =
      drop-used nil t.len t.offsets (leases_in t) fits fits' i h
      ∙ ap (λ (l : Lease). entry (get_or t.offsets i 0) l ∷ drop (i + 1) (leases_of t))
      (stored_at t w.full w.sound i (omega (arith, w.sound.len)) ∙ column-at w.full.leases (slot_in t.slots i))

  none_left : (i : ℕ) → t.len ≤ i → drop i (leases_of t) ≡ []
  none_left = drop-unused nil t.len t.offsets (leases_in t) fits fits'

module _ (len now : ℕ) (ks slots ds : List ℕ) where
  module _ {offsets : List ℕ} {n i : ℕ} (inv : Listing len now ks slots ds offsets n i) where
    pub listing-expired : i < len → len ≤ LEASES → get_or ds (slot_in slots i) 0 ≤ now → Listing len now ks slots ds (set offsets n (get_or ks i 0)) (n + 1) (i + 1)
    listing-expired h few d =
        let k : n < length offsets = omega (arith, inv.few, inv.full-list, few) in
        record {
          inside = omega arith;
          few = omega (arith, inv.few);
          full-list = length-set offsets n (get_or ks i 0) ∙ inv.full-list;
          is = λ t w. rw (add-one n, take-suc-set offsets n (get_or ks i 0) k, append_snoc) (rw (head (timing len ks slots ds t) w i h, le-ltb now _ d) at (inv.is t w));
          rest = rest_more n offsets (replicate 128 0) (get_or ks i 0) inv.rest;
        }

    pub listing-running : i < len → now < get_or ds (slot_in slots i) 0 → Listing len now ks slots ds offsets n (i + 1)
    listing-running h d =
        record {
          inside = omega arith;
          few = omega (arith, inv.few);
          full-list = inv.full-list;
          is = λ t w. rw (head (timing len ks slots ds t) w i h, lt-ltb now _ d) at (inv.is t w);
          rest = inv.rest;
        }

    pub expired-listed : len ≤ i → (t : LeaseTable) → Whole (timing len ks slots ds t) → take n offsets ≡ expired_offsets now (leases_of (timing len ks slots ds t))
    expired-listed h t w = sym (append-nil (take n offsets)) ∙ rw (none_left (timing len ks slots ds t) w i h) at (inv.is t w)
