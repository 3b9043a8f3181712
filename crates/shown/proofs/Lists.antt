-- Lists that stand in two columns of which the first n places are in use, as a loop goes over them, and the pieces that are put for
-- marks and empty lists. Assumes nothing.
use Prim.Native.Nat.{ℕ, zero, suc, ◌+◌, ◌≤◌, ◌<◌, min}
use native.Mathlib.Numerals.{add-one}
use native.Mathlib.Omega.{arith}
use mathlib.Core.Path.{◌≡◌, refl, ap}
use mathlib.Core.List.{List, [], ◌∷◌}
use lib.ListN.{length, take, drop, get_or, length-take, drop_of_length-le}
use Rattle.types.specs.Zipped.{zipped}
use Rattle.types.specs.Keyed.{Entry, entry, entries}
use Rattle.text.specs.Output.{ascii}
use Rattle.shown.specs.Shown.{mark, none_where}

module _ {A B C : Type 0} (f : A → B → C) where
  few : (xs : List A) (ys : List B) → length (zipped f xs ys) ≤ length xs
  few [] ys = omega arith
  few (x ∷ xs) [] = omega arith
  few (x ∷ xs) (y ∷ ys) = omega (arith, few xs ys)

  place : (a : A) (b : B) (i n : ℕ) (xs : List A) (ys : List B) → i < n → i < length xs → i < length ys
      → drop i (zipped f (take n xs) (take n ys)) ≡ f (get_or xs i a) (get_or ys i b) ∷ drop (suc i) (zipped f (take n xs) (take n ys))
  place a b i zero xs ys h p q = absurd (omega arith)
  place a b i (suc n) [] ys h p q = absurd (omega arith)
  place a b i (suc n) (x ∷ xs) [] h p q = absurd (omega arith)
  place a b zero (suc n) (x ∷ xs) (y ∷ ys) h p q = refl
  place a b (suc i) (suc n) (x ∷ xs) (y ∷ ys) h p q = place a b i n xs ys (omega arith) (omega arith) (omega arith)

  pub zipped-next : (a : A) (b : B) (i n : ℕ) (xs : List A) (ys : List B) → i < n → i < length xs → i < length ys
      → drop i (zipped f (take n xs) (take n ys)) ≡ f (get_or xs i a) (get_or ys i b) ∷ drop (i + 1) (zipped f (take n xs) (take n ys))
  zipped-next a b i n xs ys h p q = rw add-one (place a b i n xs ys h p q)

  pub zipped-end : (i n : ℕ) (xs : List A) (ys : List B) → min n (length xs) ≤ i → drop i (zipped f (take n xs) (take n ys)) ≡ []
  zipped-end i n xs ys h =
      drop_of_length-le (zipped f (take n xs) (take n ys)) {i = i} (omega (arith, few (take n xs) (take n ys), length-take n xs))

  pub zipped-nothing : (n : ℕ) (xs : List A) (ys : List B) → 0 < length xs → 0 < length ys → none_where (length (zipped f (take n xs) (take n ys))) ≡ none_where n
  zipped-nothing zero xs ys h k = refl
  zipped-nothing (suc n) [] ys h k = absurd (omega arith)
  zipped-nothing (suc n) (x ∷ xs) [] h k = absurd (omega arith)
  zipped-nothing (suc n) (x ∷ xs) (y ∷ ys) h k = refl

entries-zipped : {A : Type 0} (ks : List ℕ) (vs : List A) → entries ks vs ≡ zipped entry ks vs
entries-zipped [] vs = refl
entries-zipped (k ∷ ks) [] = refl
entries-zipped (k ∷ ks) (v ∷ vs) = ap (λ (l : List (Entry _)). entry k v ∷ l) (entries-zipped ks vs)

module _ {A : Type 0} (n : ℕ) (ks : List ℕ) (vs : List A) where
  pub entries_next : (d : A) (i : ℕ) → i < n → i < length ks → i < length vs
      → drop i (entries (take n ks) (take n vs)) ≡ entry (get_or ks i 0) (get_or vs i d) ∷ drop (i + 1) (entries (take n ks) (take n vs))
  entries_next d i h p q = rw (entries-zipped (take n ks) (take n vs)) (zipped-next entry 0 d i n ks vs h p q)

  pub entries-end : (i : ℕ) → min n (length ks) ≤ i → drop i (entries (take n ks) (take n vs)) ≡ []
  entries-end i h = rw (entries-zipped (take n ks) (take n vs)) (zipped-end entry i n ks vs h)

  pub entries-nothing : 0 < length ks → 0 < length vs → none_where (length (entries (take n ks) (take n vs))) ≡ none_where n
  entries-nothing h k = rw (entries-zipped (take n ks) (take n vs)) (zipped-nothing entry n ks vs h k)

-- ## marks and empty lists
pub mark-later : (i : ℕ) → 0 < i → mark i ≡ ascii ","
mark-later zero h = absurd (omega arith)
mark-later (suc i) h = refl

pub some-there : (n : ℕ) → 0 < n → none_where n ≡ []
some-there zero h = absurd (omega arith)
some-there (suc n) h = refl
