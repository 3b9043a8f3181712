-- What the questions owe their contracts: the count of an offset by its lease and its carried count, and the waiting list by the
-- carried offsets with the expired leases behind them.
-- Assumes nothing.
use Prim.Native.Nat.{ℕ, zero, suc, ◌+◌, ◌≤◌, ◌<◌}
use native.Mathlib.Omega.{arith}
use mathlib.Core.Path.{◌≡◌, refl, sym, ap, ◌∙◌}
use mathlib.Core.List.{List, [], ◌∷◌, ◌++◌, append_assoc, append-nil}
use mathlib.Core.Option.{Option, none, some, none-ne-some}
use lib.ListN.{length, take, drop, get_or, length-append, length-take, length-drop}
use lib.Seq.{take_all, take-add, take-take, length-take-le, take-append-add, drop-append-add}
use Rattle.std.specs.Prelude.{Some, None, unwrap_or}
use Rattle.std.specs.Prelude as std
use Rattle.types.specs.Limits.{LEASES, CARRIED}
use Rattle.types.specs.Keyed.{Entry, entry, entries, lookup, Rising}
use Rattle.types.specs.Zipped.{inserted}
use Rattle.types.proofs.Columns.{length-used, drop-used}
use Rattle.tables.specs.Columns.{put_in}
use Rattle.tables.specs.Search.{Boundary}
use Rattle.tables.proofs.Columns.{put_in_lem, put_in_front}
use Rattle.tables.proofs.Search.{boundary_inside}
use Rattle.tables.proofs.Slots.{through-length}
use Rattle.lease.specs.declared.Lease.{Lease}
use Rattle.lease.specs.declared.LeaseTable.{LeaseTable}
use Rattle.lease.specs.State.{carried_of, leases_of, nil, stored_in, leases_in}
use Rattle.lease.specs.Operations.{lease_of, times_handed_out}
use Rattle.lease.specs.Rest.{deliveries_of}
use Rattle.lease.specs.Answers.{attempts_of}
use Rattle.lease.specs.Parts.{slot_in}
use Rattle.lease.specs.Parts as lease
use Rattle.lease.proofs.Leases.{column-at}
use Rattle.lease.proofs.Slots.{in_flight_lem, carried-length, stored_at}
use Rattle.consumer.specs.State.{State, count_or0}
use Rattle.consumer.specs.Questions.{keys_of, waiting_at, count_of}
use Rattle.consumer.specs.Waiting.{expired_deadlines, longest_first}
use Rattle.consumer.specs.Valid.{Valid}
use Rattle.consumer.specs.Parts.{Whole, awaiting}
use Rattle.consumer.specs.View.{view}
use Rattle.consumer.specs.declared.Consumer.{Consumer}
use Rattle.consumer.proofs.Counts.{no-lease, count-is}
use Rattle.consumer.proofs.CallsReturns.{table-whole}
use Rattle.consumer.proofs.Waiting.{deadlines_of, keys_inserted, deadlines-inserted, stays_out, comes_in}

-- ## the count of an offset
-- 0 in place of a count that is missing
pub unwrapped : (x : std.Option ℕ) → unwrap_or x 0 ≡ count_or0 (attempts_of x)
unwrapped (Some n) = refl
unwrapped None = refl

module _ (s : State) (v : Valid s) (o : ℕ) where
  pub no-count : deliveries_of (lease_of s.table o) ≡ none → lookup o s.table.carried ≡ none → 0 ≡ count_of s o
  no-count e f = sym (count-is s v o ∙ rw (no-lease (lease_of s.table o) e, f))

  pub unleased-count : deliveries_of (lease_of s.table o) ≡ none → count_or0 (lookup o s.table.carried) ≡ count_of s o
  unleased-count e = sym (count-is s v o ∙ rw (no-lease (lease_of s.table o) e))

  pub lease-counted : (n : ℕ) → deliveries_of (lease_of s.table o) ≡ some n → count_of s o ≡ n
  lease-counted n e = count-is s v o ∙ go (lease_of s.table o) e
    where
      go : (x : Option Lease) → deliveries_of x ≡ some n → times_handed_out x (lookup o s.table.carried) ≡ n
      go none q = absurd (none-ne-some n q)
      go (some l) q = cc

-- ## the carried offsets
keys_taken : (ks vs : List ℕ) → keys_of (entries ks vs) ≡ take (length (entries ks vs)) ks
keys_taken [] vs = refl
keys_taken (k ∷ ks) [] = refl
keys_taken (k ∷ ks) (v ∷ vs) = ap (λ (l : List ℕ). k ∷ l) (keys_taken ks vs)

entries-few : (ks vs : List ℕ) → length (entries ks vs) ≤ length ks
entries-few [] vs = omega arith
entries-few (k ∷ ks) [] = omega arith
entries-few (k ∷ ks) (v ∷ vs) = omega (arith, entries-few ks vs)

module _ (t : LeaseTable) (n : ℕ) (size : n ≡ length (carried_of t)) where
  pub carried_keys : keys_of (carried_of t) ≡ take n t.carried_offsets
  carried_keys =
      let few = entries-few (take t.carried_len t.carried_offsets) (take t.carried_len t.carried_counts) in
      keys_taken (take t.carried_len t.carried_offsets) (take t.carried_len t.carried_counts)
      ∙ take-take (length (carried_of t)) t.carried_len t.carried_offsets (omega (arith, few, length-take t.carried_len t.carried_offsets))
      ∙ ap (λ (k : ℕ). take k t.carried_offsets) (sym size)

  -- the list of both, from what stands in the array
  pub both-listed : (m : ℕ) (right out : List ℕ) → take (n + m) out ≡ take n t.carried_offsets ++ right → take (n + m) out ≡ keys_of (carried_of t) ++ right
  both-listed m right out h = h ∙ rw carried_keys

-- ## the expired leases behind them, from the first on
rising-take : (lo i : ℕ) (l : List (Entry Lease)) → Rising lo l → Rising lo (take i l)
rising-take lo zero l r = tt
rising-take lo (suc i) [] r = tt
rising-take lo (suc i) (e ∷ l) r = (r.0, rising-take (suc e.key) i l r.1)

put_in_length : (n at a : ℕ) (l : List ℕ) → at ≤ n → n < length l → {l' : List ℕ} → l' ≡ put_in n at a l → length l' ≡ length l
put_in_length n at a l h k e = ap length (e ∙ put_in_lem n at a l h k) ∙ simp (length-append, length-take, length-drop) (omega arith)

inserted-behind : (n at a : ℕ) (xs ys : List ℕ) → length xs ≡ n → inserted (n + at) a (xs ++ ys) ≡ xs ++ inserted at a ys
inserted-behind n at a xs ys e =
    rw (← e, take-append-add xs ys at, drop-append-add xs ys at) (append_assoc xs (take at ys) (a ∷ drop at ys))

-- those before place i, in their order
abbrev pub ordered_before : LeaseTable → ℕ → ℕ → List (Entry ℕ)
ordered_before t now i = longest_first (expired_deadlines now (take i (leases_of t)))

-- they stand behind the carried offsets, and their deadlines in a column
pub record Behind (t : LeaseTable) (now : ℕ) (listed times : List ℕ) (n i : ℕ) : Type 0 where
  pub full : length listed ≡ CARRIED
  pub is : take (t.carried_len + n) listed ≡ take t.carried_len t.carried_offsets ++ keys_of (ordered_before t now i)
  pub deadlines : take n times ≡ deadlines_of (ordered_before t now i)

module _ (t : LeaseTable) (w : lease.Whole t) (now : ℕ) where
  fits : t.len ≤ length t.offsets
  fits = omega (arith, w.full.offsets, w.sound.len)

  fits' : t.len ≤ length (leases_in t)
  fits' = omega (arith, through-length nil t.slots (stored_in t), w.full.slots, w.sound.len)

  pub all-before : ordered_before t now t.len ≡ longest_first (expired_deadlines now (leases_of t))
  all-before =
      let long = length-used nil t.len t.offsets (leases_in t) fits fits' in
      rw (take_all t.len (leases_of t) (omega (arith, long)))

  module _ (i : ℕ) (h : i < t.len) where
    abbrev this : Entry Lease
    this = entry (get_or t.offsets i 0) (get_or (leases_in t) i nil)

    one_more : take (i + 1) (leases_of t) ≡ take i (leases_of t) ++ this ∷ []
    one_more = take-add i 1 (leases_of t) ∙ rw (drop-used nil t.len t.offsets (leases_in t) fits fits' i h)

    due : (get_or (leases_in t) i nil).deadline ≡ get_or t.deadlines (slot_in t.slots i) 0
    due = ap (λ (l : Lease). l.deadline) (stored_at t w.full w.sound i (omega (arith, w.sound.len)) ∙ column-at w.full.leases (slot_in t.slots i))

    -- one more stays out, or comes in behind the deadlines that are not later
    running : now < get_or t.deadlines (slot_in t.slots i) 0 → ordered_before t now (i + 1) ≡ ordered_before t now i
    running d = rw one_more (ap longest_first (stays_out now this (take i (leases_of t)) (rw (← due) at d)))

    expired : (at : ℕ) → get_or t.deadlines (slot_in t.slots i) 0 ≤ now → Boundary (get_or t.deadlines (slot_in t.slots i) 0 + 1) (deadlines_of (ordered_before t now i)) at
        → ordered_before t now (i + 1) ≡ inserted at (entry (get_or t.offsets i 0) (get_or t.deadlines (slot_in t.slots i) 0)) (ordered_before t now i)
    expired at d b =
        let r = rw one_more at (rising-take 0 (i + 1) (leases_of t) w.sound.valid.rising) in
        rw (one_more, ← due) (comes_in now this (take i (leases_of t)) 0 at r (rw (← due) at d) (rw (← due) at b))

  pub behind_none : (times : List ℕ) → Behind t now t.carried_offsets times 0 0
  behind_none times =
      let e : t.carried_len + 0 ≡ t.carried_len = omega arith in
      record { full = w.full.carried-offsets; is = rw e (sym (append-nil (take t.carried_len t.carried_offsets))); deadlines = refl }

  module _ {listed times : List ℕ} {n i : ℕ} (h : i < t.len) (inv : Behind t now listed times n i) where
    pub behind-running : now < get_or t.deadlines (slot_in t.slots i) 0 → Behind t now listed times n (i + 1)
    behind-running d = record { full = inv.full; is = rw (running i h d) inv.is; deadlines = rw (running i h d) inv.deadlines }

    pub behind-expired : (at : ℕ) {listed' times' : List ℕ} → get_or t.deadlines (slot_in t.slots i) 0 ≤ now → Boundary (get_or t.deadlines (slot_in t.slots i) 0 + 1) (take n times) at
        → n < length times → t.carried_len + n < length listed
        → times' ≡ put_in n at (get_or t.deadlines (slot_in t.slots i) 0) times → listed' ≡ put_in (t.carried_len + n) (t.carried_len + at) (get_or t.offsets i 0) listed
        → Behind t now listed' times' (n + 1) (i + 1)
    behind-expired at d b room room' p q =
        let m = t.carried_len in
        let k = get_or t.offsets i 0 in
        let v = get_or t.deadlines (slot_in t.slots i) 0 in
        let l = ordered_before t now i in
        let in_use : at ≤ n = boundary_inside (v + 1) n times b in
        let step = expired i h at d (rw inv.deadlines at b) in
        let e : m + (n + 1) ≡ m + n + 1 = omega arith in
        let long : length (take m t.carried_offsets) ≡ m = length-take-le m t.carried_offsets (omega (arith, w.full.carried-offsets, w.sound.carried-len)) in
        record {
          full = put_in_length (m + n) (m + at) k listed (omega arith) room' q ∙ inv.full;
          is =
              rw (step, keys_inserted at (entry k v) l, e)
              (put_in_front (m + n) (m + at) k listed (omega arith) room' q
              ∙ ap (inserted (m + at) k) inv.is
              ∙ inserted-behind m at k (take m t.carried_offsets) (keys_of l) long);
          deadlines = rw (step, deadlines-inserted at (entry k v) l) (put_in_front n at v times in_use room p ∙ ap (inserted at v) inv.deadlines);
        }

-- ## the loop: on every consumer with these parts, those before place i stand there
pub record Waits (len m now : ℕ) (ks slots ds cks listed times : List ℕ) (n i : ℕ) : Type 0 where
  pub inside : i ≤ len
  pub few : n ≤ i
  pub full : length times ≡ LEASES
  pub behind : (c : Consumer) → Whole (awaiting len m ks slots ds cks c) → Behind (awaiting len m ks slots ds cks c).table now listed times n i

-- there is room for one more
room-behind : (c : Consumer) → Whole c → (n : ℕ) → n < c.table.len → c.table.carried_len + n < CARRIED
room-behind c w n h =
    omega (arith, in_flight_lem c.table w.full w.sound.table, carried-length c.table w.full w.sound.table, w.sound.valid.together)

module _ (len m now : ℕ) (ks slots ds cks : List ℕ) where
  pub waits_none : (times : List ℕ) → length times ≡ LEASES → Waits len m now ks slots ds cks cks times 0 0
  waits_none times e =
      record { inside = omega arith; few = omega arith; full = e; behind = λ c w. behind_none (awaiting len m ks slots ds cks c).table (table-whole w) now times }

  module _ {listed times : List ℕ} {n i : ℕ} (inv : Waits len m now ks slots ds cks listed times n i) where
    module _ (fits : len ≤ LEASES) (more : i < len) where
      pub waits-running : now < get_or ds (slot_in slots i) 0 → Waits len m now ks slots ds cks listed times n (i + 1)
      waits-running d =
          record {
            inside = omega arith;
            few = omega (arith, inv.few);
            full = inv.full;
            behind = λ c w. behind-running (awaiting len m ks slots ds cks c).table (table-whole w) now more (inv.behind c w) d;
          }

      pub waits-expired : (at : ℕ) {listed' times' : List ℕ} → get_or ds (slot_in slots i) 0 ≤ now → Boundary (get_or ds (slot_in slots i) 0 + 1) (take n times) at
          → times' ≡ put_in n at (get_or ds (slot_in slots i) 0) times → listed' ≡ put_in (m + n) (m + at) (get_or ks i 0) listed
          → Waits len m now ks slots ds cks listed' times' (n + 1) (i + 1)
      waits-expired at d b p q =
          let room : n < length times = omega (arith, inv.few, inv.full) in
          record {
            inside = omega arith;
            few = omega (arith, inv.few);
            full = put_in_length n at (get_or ds (slot_in slots i) 0) times (boundary_inside (get_or ds (slot_in slots i) 0 + 1) n times b) room p ∙ inv.full;
            behind = λ c w.
                let room' : m + n < length listed = omega (arith, room-behind (awaiting len m ks slots ds cks c) w n (omega (arith, inv.few)), (inv.behind c w).full) in
                behind-expired (awaiting len m ks slots ds cks c).table (table-whole w) now more (inv.behind c w) at d b room room' p q;
          }

    pub all_wait : len ≤ i → (c : Consumer) → Whole (awaiting len m ks slots ds cks c) → take (m + n) listed ≡ waiting_at (view (awaiting len m ks slots ds cks c)) now
    all_wait h c w =
        let e : i ≡ len = omega (arith, inv.inside) in
        let t = (awaiting len m ks slots ds cks c).table in
        both-listed t m (sym (carried-length t w.full w.sound.table)) n _ listed (rw (e, all-before t (table-whole w) now) at (inv.behind c w).is)
