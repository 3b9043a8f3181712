-- From the columns of a table, through its slots, to its lists: what the place that a search found says of the lease, or of the carried
-- count, of an offset, and which columns the list operations make there.
-- Assumes nothing.
use Prim.Native.Nat.{ℕ, ◌≤◌, ◌<◌}
use native.Mathlib.Omega.{arith}
use native.Mathlib.Nat.{mod-eq_of_lt}
use mathlib.Core.Path.{◌≡◌, refl, sym, ap, subst, ◌∙◌}
use mathlib.Core.List.{List}
use mathlib.Core.Option.{some}
use lib.ListN.{length, take, get_or, set}
use Rattle.types.specs.Limits.{LEASES}
use Rattle.types.specs.Keyed.{entries, update}
use Rattle.types.proofs.Keyed.{update-put}
use Rattle.types.proofs.Columns.{length-used}
use Rattle.tables.specs.Search.{Placed, Spans}
use Rattle.tables.specs.declared.Place.{Place}
use Rattle.tables.specs.declared.Place.TheVariants.{Found, Missing}
use Rattle.tables.specs.declared.counts.Span.{Span}
use Rattle.tables.specs.Slots.{through}
use Rattle.tables.proofs.Slots.{slot_below, through-length, through-at, through-set}
use Rattle.tables.proofs.Search.{found-used}
use Rattle.tables.proofs.Places.{Stands, Lacks, Spanned, stands, lacks, spanned}
use Rattle.lease.specs.State.{Sound, view, nil, stored_in, leases_in, leases_of, carried_of}
use Rattle.lease.specs.Operations.{lease, lease_of}
use Rattle.lease.specs.Parts.{Full, slot_in, PlaceWithin}
use Rattle.lease.specs.declared.Lease.{Lease}
use Rattle.lease.specs.declared.LeaseTable.{LeaseTable}
use Rattle.lease.proofs.Leases.{column-length, column-at}

-- ## a table
-- the lease of an offset stands at a place; it has none, and one belongs there
abbrev pub Leased : LeaseTable → ℕ → ℕ → Type 0
Leased t x at = Stands nil t.len t.offsets (leases_in t) x at

abbrev pub Free : LeaseTable → ℕ → ℕ → Type 0
Free t x at = Lacks t.len t.offsets (leases_in t) x at

-- the same of its carried count
abbrev pub Carried : LeaseTable → ℕ → ℕ → Type 0
Carried t x at = Stands 0 t.carried_len t.carried_offsets t.carried_counts x at

abbrev pub Uncarried : LeaseTable → ℕ → ℕ → Type 0
Uncarried t x at = Lacks t.carried_len t.carried_offsets t.carried_counts x at

-- a place that a search found is within the columns
pub placed-within : (x len : ℕ) (keys : List ℕ) (r : Place) → len ≤ LEASES → Placed x (take len keys) r → PlaceWithin LEASES r
placed-within x len keys (Found at) h p = omega (arith, found-used x len keys p refl)
placed-within x len keys (Missing at) h p = tt

module _ (t : LeaseTable) (full : Full t) (ok : Sound t) where
  fits : t.len ≤ length t.offsets
  fits = omega (arith, full.offsets, ok.len)

  fits' : t.len ≤ length (leases_in t)
  fits' = omega (arith, through-length nil t.slots (stored_in t), full.slots, ok.len)

  -- ## the slot at a place
  module _ (at : ℕ) (h : at < LEASES) where
    used : at < length t.slots
    used = omega (arith, full.slots)

    pub slot_is : slot_in t.slots at ≡ get_or t.slots at 0
    slot_is = mod-eq_of_lt (slot_below ok.slots at used)

    -- the lease there
    pub stored_at : get_or (leases_in t) at nil ≡ get_or (stored_in t) (slot_in t.slots at) nil
    stored_at = through-at nil t.slots (stored_in t) at used ∙ ap (λ (s : ℕ). get_or (stored_in t) s nil) (sym slot_is)

    -- one stored there
    pub stores_at : (v : Lease) → through nil t.slots (set (stored_in t) (slot_in t.slots at) v) ≡ set (leases_in t) at v
    stores_at v =
        ap (λ (s : ℕ). through nil t.slots (set (stored_in t) s v)) slot_is ∙ through-set nil ok.slots (stored_in t) (omega (arith, column-length full.leases)) at v used

  carried-fits : t.carried_len ≤ length t.carried_offsets
  carried-fits = omega (arith, full.carried-offsets, ok.carried-len)

  carried-fits' : t.carried_len ≤ length t.carried_counts
  carried-fits' = omega (arith, full.carried-counts, ok.carried-len)

  pub in_flight_lem : length (leases_of t) ≡ t.len
  in_flight_lem = length-used nil t.len t.offsets (leases_in t) fits fits'

  pub carried-length : length (carried_of t) ≡ t.carried_len
  carried-length = length-used 0 t.carried_len t.carried_offsets t.carried_counts carried-fits carried-fits'

  -- what the answer of a search among the offsets says
  module _ {x at : ℕ} {r : Place} (p : Placed x (take t.len t.offsets) r) where
    pub leased : r ≡ Found at → Leased t x at
    leased e = stands nil t.len t.offsets (leases_in t) fits fits' ok.valid.rising x at (subst (Placed x (take t.len t.offsets)) e p)

    pub free : r ≡ Missing at → Free t x at
    free e = lacks nil t.len t.offsets (leases_in t) fits fits' ok.valid.rising x at (subst (Placed x (take t.len t.offsets)) e p)

  -- the lease that stands there
  module _ (x : ℕ) {at : ℕ} {r : Place} (p : Placed x (take t.len t.offsets) r) (e : r ≡ Found at) where
    within : at < LEASES
    within = omega (arith, (leased p e).inside, ok.len)

    pub lease-at : let s = slot_in t.slots at in lease_of (view t) x ≡ some (lease (get_or t.generations s 0) (get_or t.attempt_starts s 0) (get_or t.deadlines s 0) (get_or t.deliveries s 0) (get_or t.workers s 0))
    lease-at = (leased p e).is ∙ ap some (stored_at at within ∙ column-at full.leases (slot_in t.slots at))

    -- a lease changed there
    pub updated : (f : Lease → Lease) (vs : List Lease) → vs ≡ set (stored_in t) (slot_in t.slots at) (f (get_or (stored_in t) (slot_in t.slots at) nil))
        → entries (take t.len t.offsets) (take t.len (through nil t.slots vs)) ≡ update x f (leases_of t)
    updated f vs q =
        rw (q, ← stored_at at within, stores_at at within (f (get_or (leases_in t) at nil)))
        ((leased p e).put (f (get_or (leases_in t) at nil)) ∙ sym (update-put 0 x f (get_or (leases_in t) at nil) (leases_of t) ok.valid.rising (leased p e).is))

  -- and among the offsets of the carried counts
  module _ {x at : ℕ} {r : Place} (p : Placed x (take t.carried_len t.carried_offsets) r) where
    pub carried : r ≡ Found at → Carried t x at
    carried e =
        stands 0 t.carried_len t.carried_offsets t.carried_counts carried-fits carried-fits' ok.valid.carried-rising x at
        (subst (Placed x (take t.carried_len t.carried_offsets)) e p)

    pub uncarried : r ≡ Missing at → Uncarried t x at
    uncarried e =
        lacks 0 t.carried_len t.carried_offsets t.carried_counts carried-fits carried-fits' ok.valid.carried-rising x at
        (subst (Placed x (take t.carried_len t.carried_offsets)) e p)

  pub carried-span : {x : ℕ} {r : Span} → Spans x (take t.carried_len t.carried_offsets) t.carried_counts r → Spanned t.carried_len t.carried_offsets t.carried_counts x r
  carried-span = spanned t.carried_len t.carried_offsets t.carried_counts carried-fits carried-fits' ok.valid.carried-rising
