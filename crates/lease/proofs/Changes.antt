-- What the changes that always take effect show: leases and counts released below a bound, clocks forward.
-- Assumes nothing.
use Prim.Native.Nat.{ℕ, ◌-◌, ◌≤◌}
use native.Mathlib.Omega.{arith}
use mathlib.Core.Path.{◌≡◌, sym, ap, ◌∙◌}
use mathlib.Core.List.{List, map}
use lib.ListN.{length, take}
use lib.Seq.{length-take-le}
use Rattle.types.specs.Keyed.{entries, drop_below, Rising}
use Rattle.types.proofs.Columns.{rising_ascending, drop-below-place, entries-map}
use Rattle.types.proofs.Scan.{map-take}
use Rattle.types.specs.Zipped.{removed}
use Rattle.tables.specs.Search.{Boundary}
use Rattle.tables.specs.Slots.{through, set_aside}
use Rattle.tables.proofs.Search.{boundary_below}
use Rattle.tables.proofs.Slots.{through-length, through-out, through-mapped, aside_front, slots_aside}
use Rattle.lease.specs.State.{Sound, view, lease_column, nil, stored_in, leases_in, with_leases}
use Rattle.lease.specs.Rest.{release_below, shifted_by, shift_deadlines}
use Rattle.lease.specs.Answers.{Becomes}
use Rattle.lease.specs.Helpers.{later_by}
use Rattle.lease.specs.Parts.{Full, leasing, releasing}
use Rattle.lease.specs.declared.LeaseTable.{LeaseTable}
use Rattle.lease.proofs.Leases.{column-length, column_shifted}
use Rattle.lease.proofs.Returns.{becomes}
use Rattle.lease.proofs.Valid.{valid_release, valid-shift}

-- ## released below a bound
-- two columns without what lies below
released : {A : Type 0} (b n first : ℕ) (ks : List ℕ) (vs : List A) (ks' : List ℕ) (vs' : List A) → n ≤ length ks → n ≤ length vs → Rising 0 (entries (take n ks) (take n vs))
    → Boundary b (take n ks) first → take (n - (first - 0)) ks' ≡ removed 0 first (take n ks) → take (n - (first - 0)) vs' ≡ removed 0 first (take n vs)
    → entries (take (n - first) ks') (take (n - first) vs') ≡ drop_below b (entries (take n ks) (take n vs))
released b n first ks vs ks' vs' h k r at p q =
    let z : n - first ≡ n - (first - 0) = omega arith in
    let even : length (take n ks) ≡ length (take n vs) = length-take-le n ks h ∙ sym (length-take-le n vs k) in
    let rise = rising_ascending 0 (take n ks) (take n vs) even r in
    rw (z, p, q, boundary_below b first 0 (take n ks) rise at) (sym (drop-below-place b 0 (take n ks) (take n vs) even rise))

module _ (t : LeaseTable) (full : Full t) (ok : Sound t) (b first carried : ℕ) (ks slots cks cvs : List ℕ) where
  pub releases : Boundary b (take t.len t.offsets) first → Boundary b (take t.carried_len t.carried_offsets) carried
      → first ≤ t.len → take (t.len - (first - 0)) ks ≡ removed 0 first (take t.len t.offsets) → slots ≡ set_aside t.len 0 first t.slots
      → take (t.carried_len - (carried - 0)) cks ≡ removed 0 carried (take t.carried_len t.carried_offsets)
      → take (t.carried_len - (carried - 0)) cvs ≡ removed 0 carried (take t.carried_len t.carried_counts)
      → Becomes (releasing (t.len - first) (t.carried_len - carried) ks slots cks cvs t) (release_below (view t) b)
  releases e c h p i v w =
      let room : t.len ≤ length t.slots = omega (arith, full.slots, ok.len) in
      let q = through-out nil (t.len - (first - 0)) t.len 0 first t.slots slots (stored_in t) (aside_front t.len 0 first t.slots (omega arith) h room i) in
      becomes (record {
        len = omega (arith, ok.len);
        carried-len = omega (arith, ok.carried-len);
        slots = slots_aside t.len 0 first t.slots (omega arith) h room ok.slots i;
        is =
            rw (
              released b t.len first t.offsets (leases_in t) ks (through nil slots (stored_in t)) (omega (arith, full.offsets, ok.len)) (omega (arith, through-length nil t.slots (stored_in t), room)) ok.valid.rising e p q,
              released b t.carried_len carried t.carried_offsets t.carried_counts cks cvs (omega (arith, full.carried-offsets, ok.carried-len)) (omega (arith, full.carried-counts, ok.carried-len)) ok.valid.carried-rising c v w,
            );
      }) (valid_release (view t) b ok.valid)

-- ## clocks forward
pub shifts : (t : LeaseTable) → Full t → (ok : Sound t) (delta : ℕ) (ss ds : List ℕ) → ss ≡ map (later_by delta) t.attempt_starts → ds ≡ map (later_by delta) t.deadlines
    → Becomes (leasing t.len t.offsets t.slots t.generations ss ds t.deliveries t.workers t) (shift_deadlines (view t) delta)
shifts t full ok delta ss ds p q =
    let column : through nil t.slots (lease_column t.generations ss ds t.deliveries t.workers) ≡ map (shifted_by delta) (leases_in t) =
    rw (p, q, column_shifted delta t.generations t.attempt_starts t.deadlines t.deliveries t.workers)
    (through-mapped (shifted_by delta) nil ok.slots (stored_in t) (omega (arith, column-length full.leases))) in
    becomes (record {
      len = ok.len;
      carried-len = ok.carried-len;
      slots = ok.slots;
      is = ap (with_leases (view t)) (rw (column, ← map-take (shifted_by delta) t.len (leases_in t)) (entries-map (shifted_by delta) (take t.len t.offsets) (take t.len (leases_in t))));
    }) (valid-shift (view t) delta ok.valid)
