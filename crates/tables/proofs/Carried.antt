-- Counts carried one by one: what one pair makes of the columns, and that the list stays sorted, with counts of their type.
-- Assumes nothing.
use Prim.Native.Nat.{ℕ, ◌+◌, ◌≤◌, ◌<◌}
use native.Mathlib.Omega.{arith}
use mathlib.Core.Path.{◌≡◌, subst}
use mathlib.Core.Bool.{true, false}
use mathlib.Core.List.{List}
use lib.Dec.{eqb}
use lib.ListN.{length, take, get_or, set}
use borrow.Author.Tests.{lt-ltb, le-ltb, eq-eqb, ne_eqb, eqb-false}
use Rattle.types.specs.Limits.{MAX, MAX32, CARRIED}
use Rattle.types.specs.Keyed.{Entry, entries, Rising, All}
use Rattle.types.specs.Zipped.{inserted}
use Rattle.types.specs.declared.Pair.{Pair}
use Rattle.types.proofs.Cases.{split}
use Rattle.types.proofs.Keyed.{rising-put, length-put-old, length-put-new, all-put}
use Rattle.types.proofs.Columns.{length-used}
use Rattle.tables.specs.Search.{Placed}
use Rattle.tables.specs.Carried.{Counted, carry, held_in, Tidy, CarriesPair}
use Rattle.tables.specs.declared.Place.{Place}
use Rattle.tables.specs.declared.Place.TheVariants.{Found, Missing}
use Rattle.tables.specs.declared.counts.Carried.{Carried}
use Rattle.tables.proofs.Places.{stands, lacks}

-- ## counts carried over
pub carry-rising : (o n : ℕ) (c : List (Entry ℕ)) → Rising 0 c → Rising 0 (carry o n c)
carry-rising o n c r = split (eqb n 0) (λ q. rw q r) (λ q. rw q (rising-put 0 o n c (omega arith) r))

pub carry-counted : (o n : ℕ) (c : List (Entry ℕ)) → o ≤ MAX → n ≤ MAX32 → All Counted c → All Counted (carry o n c)
carry-counted o n c h m a =
    split (eqb n 0)
    (λ q. rw q a)
    (λ q. rw q (all-put Counted o n c (record { offset-fits = h; once = omega (arith, eqb-false n 0 q); count_fits = m }) a))

-- ## a count put into the columns
-- they hold the list, which is within its limit
pub record Holds (held right : List (Entry ℕ)) : Type 0 where
  pub is : held ≡ right
  pub few : length right ≤ CARRIED

module _ (n : ℕ) (ks vs : List ℕ) (full : length ks ≡ CARRIED) (full' : length vs ≡ CARRIED) (few : n ≤ CARRIED) (rise : Rising 0 (entries (take n ks) (take n vs))) where
  held : length (entries (take n ks) (take n vs)) ≡ n
  held = length-used 0 n ks vs (omega arith) (omega arith)

  module _ (x c : ℕ) (some-count : c ≡ 0 → ⊥) {at : ℕ} {r : Place} (p : Placed x (take n ks) r) where
    pub counted_anew : r ≡ Found at → Holds (entries (take n ks) (take n (set vs at c))) (carry x c (entries (take n ks) (take n vs)))
    counted_anew e =
        let h = stands 0 n ks vs (omega arith) (omega arith) rise x at (subst (Placed x (take n ks)) e p) in
        rw (ne_eqb c 0 some-count) (record { is = h.put c; few = omega (arith, held, length-put-old 0 x c (get_or vs at 0) (entries (take n ks) (take n vs)) rise h.is) })

    pub one_too_many : r ≡ Missing at → n ≡ CARRIED → CARRIED < length (carry x c (entries (take n ks) (take n vs)))
    one_too_many e q =
        let h = lacks 0 n ks vs (omega arith) (omega arith) rise x at (subst (Placed x (take n ks)) e p) in
        rw (ne_eqb c 0 some-count, length-put-new x c (entries (take n ks) (take n vs)) h.is, held) (omega arith)

    pub counted-more : r ≡ Missing at → (n ≡ CARRIED → ⊥) → (ks' vs' : List ℕ) → take (n + 1) ks' ≡ inserted at x (take n ks) → take (n + 1) vs' ≡ inserted at c (take n vs)
        → Holds (entries (take (n + 1) ks') (take (n + 1) vs')) (carry x c (entries (take n ks) (take n vs)))
    counted-more e q ks' vs' u w =
        let h = lacks 0 n ks vs (omega arith) (omega arith) rise x at (subst (Placed x (take n ks)) e p) in
        rw (u, w, ne_eqb c 0 some-count) (record { is = h.put c; few = omega (arith, held, length-put-new x c (entries (take n ks) (take n vs)) h.is) })

-- ## one pair more
-- what the columns hold is the list with the pair in it, or there are too many
module _ (p : Pair) (c : Carried) (tidy : Tidy c) (room : c.full ≡ false) where
  abbrev more : List (Entry ℕ)
  more = carry p.offset p.attempt (held_in c)

  pub pair-nothing : length (held_in c) ≤ CARRIED → p.attempt ≡ 0 → CarriesPair p c c
  pair-nothing few e = record { is = rw (room, eq-eqb p.attempt 0 e, le-ltb CARRIED (length (held_in c)) few); tidy = tidy }

  pub pair-carried : p.offset ≤ MAX → p.attempt ≤ MAX32 → (n : ℕ) (ks vs : List ℕ) → n ≤ CARRIED → Holds (entries (take n ks) (take n vs)) more
      → CarriesPair p c (record { offsets = ks; counts = vs; len = n; full = c.full })
  pair-carried fits fits' n ks vs few h =
      record {
        is = rw (room, h.is, le-ltb CARRIED (length more) h.few);
        tidy = record {
          few = few;
          rising = rw h.is (carry-rising p.offset p.attempt (held_in c) tidy.rising);
          counted = rw h.is (carry-counted p.offset p.attempt (held_in c) fits fits' tidy.counted);
        };
      }

  pub pair-refused : CARRIED < length more → CarriesPair p c (record { offsets = c.offsets; counts = c.counts; len = c.len; full = true })
  pair-refused h = record { is = rw (room, lt-ltb CARRIED (length more) h); tidy = record { few = tidy.few; rising = tidy.rising; counted = tidy.counted } }

-- with too many, nothing is carried any more
pub pair-kept : (p : Pair) (c : Carried) → Tidy c → c.full ≡ true → CarriesPair p c c
pair-kept p c tidy e = record { is = rw e; tidy = tidy }
