-- Arrays of which the first n elements count: what is left of a scan after one more element, and that a map over the
-- elements goes through take, drop and set. Assumes nothing.
use Prim.Native.Nat.{ℕ, zero, suc, ◌+◌, ◌<◌, ◌≤◌}
use native.Mathlib.Omega.{arith}
use native.Mathlib.Numerals.{add-one}
use mathlib.Core.Path.{◌≡◌, refl, sym, ap, ◌∙◌}
use mathlib.Core.List.{List, [], ◌∷◌, map}
use lib.ListN.{length, take, drop, get_or, set, length-take, length-map, drop_of_length-le}
use lib.Seq.{drop-cons, get_or-take}

module _ {A : Type 0} (d : A) (a : List A) (n i : ℕ) (fits : n ≤ length a) where
  pub scan_more : i < n → drop i (take n a) ≡ get_or a i d ∷ drop (i + 1) (take n a)
  scan_more h =
      let l : i < length (take n a) = simp length-take (omega arith) in
      rw (drop-cons (take n a) i d l, get_or-take n a i d h, add-one)

  pub scan_end : n ≤ i → drop i (take n a) ≡ []
  scan_end h = drop_of_length-le (take n a) {i = i} (simp length-take (omega arith))

module _ {A B : Type 0} (f : A → B) where
  pub map-take : (n : ℕ) (l : List A) → map f (take n l) ≡ take n (map f l)
  map-take zero l = refl
  map-take (suc n) [] = refl
  map-take (suc n) (a ∷ l) = ap (λ (m : List B). f a ∷ m) (map-take n l)

  pub map-set : (l : List A) (i : ℕ) (a : A) → map f (set l i a) ≡ set (map f l) i (f a)
  map-set [] i a = refl
  map-set (x ∷ l) zero a = refl
  map-set (x ∷ l) (suc i) a = ap (λ (m : List B). f x ∷ m) (map-set l i a)

  -- the length of an array of structs: `search (needs, length-mapped)`
  pub length-mapped : (l : List A) (n : ℕ) → length (map f l) ≡ n → length l ≡ n
  length-mapped l n e = sym (length-map l f) ∙ e
