-- Columns that are read through slots: what a store at a slot, a slot put in and slots taken out make of what is read; and that the
-- slots stay the same numbers in another order.
-- Assumes nothing.
use Prim.Native.Nat.{ℕ, zero, suc, ◌+◌, ◌-◌, ◌≤◌, ◌<◌}
use native.Mathlib.Omega.{arith}
use native.Mathlib.Numerals.{add-one}
use mathlib.Core.Path.{◌≡◌, refl, sym, ap, ◌∙◌}
use mathlib.Core.Bool.{cond}
use mathlib.Core.List.{List, [], ◌∷◌, ◌++◌, map, append-nil, append_assoc}
use lib.Dec.{ltb, eqb}
use lib.ListN.{length, take, drop, get_or, set, length-append, length-take, length-drop, length-map, take-append-drop, drop_of_length-le, get_or-map}
use lib.Seq.{drop-cons, drop-drop, get_or-take, take-take, take_all, get_or-set_same, get_or-set_other, set_at, take_at, append_snoc, drop-append-add, paste}
use borrow.Author.Tests.{ltb-true, ltb-false, lt-ltb, le-ltb, eqb-true, eqb-false, eq-eqb}
use Rattle.types.specs.Lists.{times}
use Rattle.types.specs.Zipped.{inserted, removed}
use Rattle.types.proofs.Cases.{split}
use Rattle.types.proofs.Lists.{times-append}
use Rattle.types.proofs.Scan.{map-take}
use Rattle.tables.specs.Columns.{put_in, takenOut}
use Rattle.tables.specs.Slots.{through, Permutes, upTo, set_aside}
use Rattle.tables.proofs.Columns.{put_in_lem, put_in_front, taken_out, taken-out-front}

-- ## how often a number stands among slots
times-split : (x n : ℕ) (l : List ℕ) → times x l ≡ times x (take n l) + times x (drop n l)
times-split x n l = ap (times x) (sym (take-append-drop n l)) ∙ times-append x (take n l) (drop n l)

stands-once : (l : List ℕ) (i : ℕ) → i < length l → 1 ≤ times (get_or l i 0) l
stands-once [] i h = absurd (omega arith)
stands-once (x ∷ l) zero h = rw (eq-eqb x x refl) (omega arith)
stands-once (x ∷ l) (suc i) h = omega (arith, stands-once l i (omega arith))

up_to-once : (n k : ℕ) → times k (upTo n) ≡ cond (ltb k n) 1 0
up_to-once zero k = rw (le-ltb k 0 (omega arith))
up_to-once (suc n) k =
    split (eqb k n)
    (λ q. let e : k ≡ n = eqb-true k n q in rw (times-append k (upTo n) (n ∷ []), up_to-once n k, q, le-ltb k n (omega arith), lt-ltb k (suc n) (omega arith)))
    (λ q.
    split (ltb k n)
    (λ h. let b = ltb-true k n h in rw (times-append k (upTo n) (n ∷ []), up_to-once n k, q, h, lt-ltb k (suc n) (omega arith)))
    (λ h. let b = ltb-false k n h in let o = eqb-false k n q in rw (times-append k (upTo n) (n ∷ []), up_to-once n k, q, h, le-ltb k (suc n) (omega arith))))

pub permutes_up_to : (n : ℕ) → Permutes n (upTo n)
permutes_up_to n = record { each = up_to-once n }

module _ {n : ℕ} {slots : List ℕ} (p : Permutes n slots) (i : ℕ) (h : i < length slots) where
  pub slot_below : get_or slots i 0 < n
  slot_below = split (ltb (get_or slots i 0) n) (ltb-true (get_or slots i 0) n) (λ q. absurd (omega (arith, stands-once slots i h, rw q at (p.each (get_or slots i 0)))))

  once : times (get_or slots i 0) slots ≤ 1
  once = let b = slot_below in rw (p.each (get_or slots i 0), lt-ltb (get_or slots i 0) n b) (omega arith)

-- ## what is read
module _ {A : Type 0} (d : A) where
  pub through-length : (slots : List ℕ) (column : List A) → length (through d slots column) ≡ length slots
  unfolding through
  through-length slots column = length-map slots (λ s. get_or column s d)

  pub through-at : (slots : List ℕ) (column : List A) (i : ℕ) → i < length slots → get_or (through d slots column) i d ≡ get_or column (get_or slots i 0) d
  unfolding through
  through-at [] column i h = absurd (omega arith)
  through-at (x ∷ slots) column zero h = refl
  through-at (x ∷ slots) column (suc i) h = through-at slots column i (omega arith)

  pub through-take : (k : ℕ) (slots : List ℕ) (column : List A) → take k (through d slots column) ≡ through d (take k slots) column
  unfolding through
  through-take k slots column = sym (map-take (λ s. get_or column s d) k slots)

  through-drop : (k : ℕ) (slots : List ℕ) (column : List A) → drop k (through d slots column) ≡ through d (drop k slots) column
  unfolding through
  through-drop zero slots column = refl
  through-drop (suc k) [] column = refl
  through-drop (suc k) (x ∷ slots) column = through-drop k slots column

  through-append : (slots slots' : List ℕ) (column : List A) → through d (slots ++ slots') column ≡ through d slots column ++ through d slots' column
  unfolding through
  through-append [] slots' column = refl
  through-append (x ∷ slots) slots' column = ap (λ (l : List A). get_or column x d ∷ l) (through-append slots slots' column)

  through-removed : (j k : ℕ) (slots : List ℕ) (column : List A) → through d (removed j k slots) column ≡ removed j k (through d slots column)
  through-removed j k slots column = rw (through-append (take j slots) (drop k slots) column, through-take j slots column, through-drop k slots column)

  -- a store at a slot that stands nowhere is not seen
  unseen : (s : ℕ) (slots : List ℕ) (column : List A) (v : A) → times s slots ≡ 0 → through d slots (set column s v) ≡ through d slots column
  unfolding through
  unseen s [] column v h = refl
  unseen s (x ∷ slots) column v h =
      split (eqb s x)
      (λ q. absurd (omega (arith, rw q at h)))
      (λ q. rw (get_or-set_other column s x v d (λ e. eqb-false s x q (sym e)), unseen s slots column v (omega (arith, h))))

  stored : (slots : List ℕ) (column : List A) (i : ℕ) (v : A) → i < length slots → times (get_or slots i 0) slots ≤ 1 → get_or slots i 0 < length column
      → through d slots (set column (get_or slots i 0) v) ≡ set (through d slots column) i v
  unfolding through
  stored [] column i v h o r = absurd (omega arith)
  stored (x ∷ slots) column zero v h o r =
      let none : times x slots ≡ 0 = omega (arith, rw (eq-eqb x x refl) at o) in
      rw (get_or-set_same column x v d r) (ap (λ (l : List A). v ∷ l) (unseen x slots column v none))
  stored (x ∷ slots) column (suc i) v h o r =
      let s = get_or slots i 0 in
      let other : x ≡ s → ⊥ = λ e. omega (arith, stands-once slots i (omega arith), rw (eq-eqb s x (sym e)) at o) in
      rw (get_or-set_other column s x v d other) (ap (λ (l : List A). get_or column x d ∷ l) (stored slots column i v (omega arith) (omega (arith, o)) r))

  put-free : (slots : List ℕ) (column : List A) (at s : ℕ) (v : A) → times s slots ≡ 0 → s < length column
      → through d (inserted at s slots) (set column s v) ≡ inserted at v (through d slots column)
  unfolding through
  put-free slots column zero s v n r = rw (get_or-set_same column s v d r) (ap (λ (l : List A). v ∷ l) (unseen s slots column v n))
  put-free [] column (suc at) s v n r = rw (get_or-set_same column s v d r)
  put-free (x ∷ slots) column (suc at) s v n r =
      split (eqb s x)
      (λ q. absurd (omega (arith, rw q at n)))
      (λ q. rw (get_or-set_other column s x v d (λ e. eqb-false s x q (sym e))) (ap (λ (l : List A). get_or column x d ∷ l) (put-free slots column at s v (omega (arith, n)) r)))

  -- ## a table of n slots and n places
  module _ {n : ℕ} {slots : List ℕ} (p : Permutes n slots) (column : List A) (fits : n ≤ length column) where
    -- a store at the slot of a place is seen at that place alone
    pub through-set : (i : ℕ) (v : A) → i < length slots → through d slots (set column (get_or slots i 0) v) ≡ set (through d slots column) i v
    through-set i v h = let b = slot_below p i h in stored slots column i v h (once p i h) (omega arith)

    -- the first slot that was free put in, with an element stored there
    pub through-put : (m at : ℕ) (v : A) → at ≤ m → m < length slots → {slots' : List ℕ} → slots' ≡ put_in m at (get_or slots m 0) slots
        → take (m + 1) (through d slots' (set column (get_or slots m 0) v)) ≡ inserted at v (take m (through d slots column))
    through-put m at v h k {slots'} e =
        let s = get_or slots m 0 in
        let b = slot_below p m k in
        let there : times s (drop m slots) ≡ 1 + times s (drop (suc m) slots) = rw (drop-cons slots m 0 k, eq-eqb s s refl) in
        let free : times s (take m slots) ≡ 0 = omega (arith, once p m k, times-split s m slots, there) in
        through-take (m + 1) slots' (set column s v)
        ∙ ap (λ (l : List ℕ). through d l (set column s v)) (put_in_front m at s slots h k e)
        ∙ put-free (take m slots) column at s v free (omega arith)
        ∙ ap (inserted at v) (sym (through-take m slots column))

  -- slots taken out
  pub through-out : (k m from to : ℕ) (slots slots' : List ℕ) (column : List A) → take k slots' ≡ removed from to (take m slots)
      → take k (through d slots' column) ≡ removed from to (take m (through d slots column))
  through-out k m from to slots slots' column e =
      through-take k slots' column ∙ ap (λ (l : List ℕ). through d l column) e ∙ through-removed from to (take m slots) column ∙ ap (removed from to) (sym (through-take m slots column))

-- ## the slots afterwards
pub slots-put : {n : ℕ} {slots : List ℕ} → Permutes n slots → (m at : ℕ) → at ≤ m → m < length slots → {slots' : List ℕ} → slots' ≡ put_in m at (get_or slots m 0) slots → Permutes n slots'
slots-put {slots = slots} p m at h k e =
    let s = get_or slots m 0 in
    let t = take m slots in
    let rest : drop m slots ≡ s ∷ drop (m + 1) slots = rw add-one (drop-cons slots m 0 k) in
    record {
      each = λ x. ap (times x) (e ∙ put_in_lem m at s slots h k)
          ∙ omega (
            arith,
            times-append x (take at t ++ s ∷ drop at t) (drop (m + 1) slots),
            times-append x (take at t) (s ∷ drop at t),
            times-split x at t,
            times-split x m slots,
            ap (times x) rest,
          )
          ∙ p.each x;
    }

module _ (m from to : ℕ) (l : List ℕ) (order : from ≤ to) (inside : to ≤ m) (room : m ≤ length l) where
  pub aside_front : {l' : List ℕ} → l' ≡ set_aside m from to l → take (m - (to - from)) l' ≡ removed from to (take m l)
  aside_front e =
      let t = take m l in
      let long : length (removed from to t) ≡ m - (to - from) = simp (length-append, length-take, length-drop) (omega arith) in
      ap (take (m - (to - from))) (e ∙ append_assoc (removed from to t) (take (to - from) (drop from t)) (drop m l)) ∙ take_at (removed from to t) _ (m - (to - from)) long

  pub slots_aside : {n : ℕ} → Permutes n l → {l' : List ℕ} → l' ≡ set_aside m from to l → Permutes n l'
  slots_aside p e =
      let t = take m l in
      let same : from + (to - from) ≡ to = omega arith in
      record {
        each = λ x. ap (times x) e
            ∙ omega (
              arith,
              times-append x (removed from to t ++ take (to - from) (drop from t)) (drop m l),
              times-append x (removed from to t) (take (to - from) (drop from t)),
              times-append x (take from t) (drop to t),
              times-split x m l,
              times-split x from t,
              times-split x (to - from) (drop from t),
              ap (times x) (drop-drop (to - from) from t ∙ ap (λ (k : ℕ). drop k t) same),
            )
            ∙ p.each x;
      }

-- one set aside: taken out, and stored at the place that fell free
pub one_aside : (m at : ℕ) (l : List ℕ) → at < m → m ≤ length l → {l' : List ℕ} → l' ≡ set (takenOut m at (at + 1) l) (m - 1) (get_or l at 0) → l' ≡ set_aside m at (at + 1) l
one_aside m at l h k e =
    let t = take m l in
    let out = removed at (at + 1) t in
    let z : m - (at + 1 - at) ≡ m - 1 = omega arith in
    let w : suc (m - 1) ≡ m = omega arith in
    let u : at + 1 - at ≡ 1 = omega arith in
    let long : length out ≡ m - 1 = simp (length-append, length-take, length-drop) (omega arith) in
    let inside : at < length t = simp length-take (omega arith) in
    let one : take (at + 1 - at) (drop at t) ≡ get_or l at 0 ∷ [] =
    ap (λ (i : ℕ). take i (drop at t)) u ∙ ap (take 1) (drop-cons t at 0 inside) ∙ ap (λ (x : ℕ). x ∷ []) (get_or-take m l at 0 h) in
    e
    ∙ ap (λ (c : List ℕ). set c (m - 1) (get_or l at 0)) (taken_out m at (at + 1) l (omega arith) (omega arith) k ∙ ap (λ (i : ℕ). out ++ drop i l) z ∙ ap (λ (r : List ℕ). out ++ r) (drop-cons l (m - 1) 0 (omega arith)))
    ∙ set_at out (get_or l (m - 1) 0) (drop (suc (m - 1)) l) (get_or l at 0) (m - 1) long
    ∙ ap (λ (i : ℕ). out ++ get_or l at 0 ∷ drop i l) w
    ∙ sym (append_snoc out (get_or l at 0) (drop m l))
    ∙ ap (λ (r : List ℕ). out ++ r ++ drop m l) (sym one)

-- the first ones set aside: none, or taken out and stored behind the others
pub none_aside : (m : ℕ) (l : List ℕ) → l ≡ set_aside m 0 0 l
none_aside m l = sym (ap (λ (t : List ℕ). t ++ drop m l) (append-nil (take m l)) ∙ take-append-drop m l)

pub all_aside : (m : ℕ) (l : List ℕ) → l ≡ set_aside m 0 m l
all_aside m l =
    let short : length (take m l) ≤ m = simp length-take (omega arith) in
    let z : m - 0 ≡ m = omega arith in
    sym (ap (λ (x : List ℕ). (x ++ take (m - 0) (take m l)) ++ drop m l) (drop_of_length-le (take m l) {i = m} short)
    ∙ ap (λ (x : List ℕ). x ++ drop m l) (ap (λ (k : ℕ). take k (take m l)) z ∙ take_all m (take m l) short)
    ∙ take-append-drop m l)

pub front_aside : (m k : ℕ) (l : List ℕ) → k ≤ m → m ≤ length l → {l' : List ℕ} → l' ≡ takenOut m 0 k l → {l'' : List ℕ} → l'' ≡ paste l' (m - k) l k → l'' ≡ set_aside m 0 k l
front_aside m k l h r {l'} e {l''} c =
    let t = take m l in
    let z : m - k ≡ m - (k - 0) = omega arith in
    let back : m - k + k ≡ m = omega arith in
    let u : k ≡ k - 0 = omega arith in
    let long : length (removed 0 k t) ≡ m - k = simp (length-take, length-drop) (omega arith) in
    let front : take (m - k) l' ≡ removed 0 k t = ap (λ (i : ℕ). take i l') z ∙ taken-out-front m 0 k l (omega arith) h r e in
    let tail : drop (m - k + k) l' ≡ drop m l =
    ap (drop (m - k + k)) (e ∙ taken_out m 0 k l (omega arith) h r ∙ ap (λ (i : ℕ). removed 0 k t ++ drop i l) (sym z))
    ∙ ap (λ (i : ℕ). drop (i + k) (removed 0 k t ++ drop (m - k) l)) (sym long)
    ∙ drop-append-add (removed 0 k t) (drop (m - k) l) k
    ∙ drop-drop k (m - k) l
    ∙ ap (λ (i : ℕ). drop i l) back in
    c
    ∙ ap (λ (x : List ℕ). x ++ take k l ++ drop (m - k + k) l') front
    ∙ ap (λ (x : List ℕ). removed 0 k t ++ take k l ++ x) tail
    ∙ ap (λ (x : List ℕ). removed 0 k t ++ x ++ drop m l) (sym (take-take k m l h) ∙ ap (λ (i : ℕ). take i t) u)

-- ## every element changed
module _ {A B : Type 0} (f : A → B) (d : A) where
  -- what is told of the elements is told of the column
  pub through-told : (slots : List ℕ) (column : List A) → map f (through d slots column) ≡ through (f d) slots (map f column)
  unfolding through
  through-told [] column = refl
  through-told (x ∷ slots) column = rw (get_or-map f column x d, through-told slots column)

module _ {A : Type 0} (f : A → A) (d : A) where
  mapped_at : (column : List A) (i : ℕ) → i < length column → get_or (map f column) i d ≡ f (get_or column i d)
  mapped_at [] i h = absurd (omega arith)
  mapped_at (x ∷ column) zero h = refl
  mapped_at (x ∷ column) (suc i) h = mapped_at column i (omega arith)

  mapped-within : (slots : List ℕ) (column : List A) → ((i : ℕ) → i < length slots → get_or slots i 0 < length column) → through d slots (map f column) ≡ map f (through d slots column)
  unfolding through
  mapped-within [] column h = refl
  mapped-within (x ∷ slots) column h = rw (mapped_at column x (h 0 (omega arith)), mapped-within slots column (λ i k. h (suc i) (omega arith)))

  pub through-mapped : {n : ℕ} {slots : List ℕ} → Permutes n slots → (column : List A) → n ≤ length column → through d slots (map f column) ≡ map f (through d slots column)
  through-mapped {slots = slots} p column fits = mapped-within slots column (λ i h. let b = slot_below p i h in omega arith)
