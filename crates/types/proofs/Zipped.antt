-- Laws of two columns: what is done to a place of both columns, or of one, is done to that place of their elements.
-- Assumes nothing.
use Prim.Native.Nat.{ℕ, zero, suc, ◌-◌, ◌<◌, min}
use native.Mathlib.Omega.{arith}
use native.Mathlib.Nat.{suc_inj}
use mathlib.Core.Path.{◌≡◌, refl, sym, ap, ◌∙◌}
use mathlib.Core.List.{List, [], ◌∷◌, ◌++◌}
use lib.ListN.{length, take, drop, get_or, set, length-take}
use lib.Seq.{set-get_or, take-suc-set}
use Rattle.types.specs.Zipped.{zipped, inserted, removed}

module _ {A B C : Type 0} (f : A → B → C) where
  pub zipped-take : (k : ℕ) (xs : List A) (ys : List B) → take k (zipped f xs ys) ≡ zipped f (take k xs) (take k ys)
  zipped-take zero xs ys = refl
  zipped-take (suc k) [] ys = refl
  zipped-take (suc k) (a ∷ xs) [] = refl
  zipped-take (suc k) (a ∷ xs) (b ∷ ys) = ap (λ (l : List C). f a b ∷ l) (zipped-take k xs ys)

  zipped_none : (xs : List A) → zipped f xs [] ≡ []
  zipped_none [] = refl
  zipped_none (a ∷ xs) = refl

  pub zipped-drop : (k : ℕ) (xs : List A) (ys : List B) → drop k (zipped f xs ys) ≡ zipped f (drop k xs) (drop k ys)
  zipped-drop zero xs ys = refl
  zipped-drop (suc k) [] ys = refl
  zipped-drop (suc k) (a ∷ xs) [] = sym (zipped_none (drop k xs))
  zipped-drop (suc k) (a ∷ xs) (b ∷ ys) = zipped-drop k xs ys

  pub zipped-length : (xs : List A) (ys : List B) → length xs ≡ length ys → length (zipped f xs ys) ≡ length xs
  zipped-length [] ys h = refl
  zipped-length (a ∷ xs) [] h = absurd (omega arith)
  zipped-length (a ∷ xs) (b ∷ ys) h = ap suc (zipped-length xs ys (suc_inj h))

  pub zipped_get_d : (k : ℕ) (a : A) (b : B) (xs : List A) (ys : List B) → length xs ≡ length ys → get_or (zipped f xs ys) k (f a b) ≡ f (get_or xs k a) (get_or ys k b)
  zipped_get_d k a b [] [] h = refl
  zipped_get_d k a b [] (y ∷ ys) h = absurd (omega arith)
  zipped_get_d k a b (x ∷ xs) [] h = absurd (omega arith)
  zipped_get_d zero a b (x ∷ xs) (y ∷ ys) h = refl
  zipped_get_d (suc k) a b (x ∷ xs) (y ∷ ys) h = zipped_get_d k a b xs ys (suc_inj h)

  pub zipped-set : (k : ℕ) (a : A) (b : B) (xs : List A) (ys : List B) → zipped f (set xs k a) (set ys k b) ≡ set (zipped f xs ys) k (f a b)
  zipped-set k a b [] ys = refl
  zipped-set zero a b (x ∷ xs) [] = refl
  zipped-set (suc k) a b (x ∷ xs) [] = refl
  zipped-set zero a b (x ∷ xs) (y ∷ ys) = refl
  zipped-set (suc k) a b (x ∷ xs) (y ∷ ys) = ap (λ (l : List C). f x y ∷ l) (zipped-set k a b xs ys)

  -- in one column alone
  pub zipped-set-left : (k : ℕ) (a : A) (b : B) (xs : List A) (ys : List B) → zipped f (set xs k a) ys ≡ set (zipped f xs ys) k (f a (get_or ys k b))
  zipped-set-left k a b xs ys = ap (zipped f (set xs k a)) (sym (set-get_or ys k b)) ∙ zipped-set k a (get_or ys k b) xs ys

  pub zipped-set-right : (k : ℕ) (a : A) (b : B) (xs : List A) (ys : List B) → zipped f xs (set ys k b) ≡ set (zipped f xs ys) k (f (get_or xs k a) b)
  zipped-set-right k a b xs ys = ap (λ (l : List A). zipped f l (set ys k b)) (sym (set-get_or xs k a)) ∙ zipped-set k (get_or xs k a) b xs ys

  pub zipped-append : (xs xs' : List A) (ys ys' : List B) → length xs ≡ length ys → zipped f (xs ++ xs') (ys ++ ys') ≡ zipped f xs ys ++ zipped f xs' ys'
  zipped-append [] xs' [] ys' h = refl
  zipped-append [] xs' (b ∷ ys) ys' h = absurd (omega arith)
  zipped-append (a ∷ xs) xs' [] ys' h = absurd (omega arith)
  zipped-append (a ∷ xs) xs' (b ∷ ys) ys' h = ap (λ (l : List C). f a b ∷ l) (zipped-append xs xs' ys ys' (suc_inj h))

  -- the first elements, and one more that is stored in both columns
  pub zipped-more : (k : ℕ) (a : A) (b : B) (xs : List A) (ys : List B) → k < length xs → k < length ys
      → zipped f (take (suc k) (set xs k a)) (take (suc k) (set ys k b)) ≡ zipped f (take k xs) (take k ys) ++ f a b ∷ []
  zipped-more k a b xs ys hx hy =
      let even : length (take k xs) ≡ length (take k ys) = simp length-take (omega arith) in
      rw (take-suc-set xs k a hx, take-suc-set ys k b hy) (zipped-append (take k xs) (a ∷ []) (take k ys) (b ∷ []) even)

  module _ (xs : List A) (ys : List B) (h : length xs ≡ length ys) where
    fronts : (k : ℕ) → length (take k xs) ≡ length (take k ys)
    fronts k = simp length-take (ap (min k) h)

    pub zipped-inserted : (k : ℕ) (a : A) (b : B) → zipped f (inserted k a xs) (inserted k b ys) ≡ inserted k (f a b) (zipped f xs ys)
    zipped-inserted k a b = rw (zipped-append (take k xs) (a ∷ drop k xs) (take k ys) (b ∷ drop k ys) (fronts k), zipped-take k xs ys, zipped-drop k xs ys)

    pub zipped-removed : (j k : ℕ) → zipped f (removed j k xs) (removed j k ys) ≡ removed j k (zipped f xs ys)
    zipped-removed j k = rw (zipped-append (take j xs) (drop k xs) (take j ys) (drop k ys) (fronts j), zipped-take j xs ys, zipped-drop k xs ys)

-- a column with one number more in front: what stands at a place but the first
module _ {A : Type 0} (a : A) (l : List A) where
  pub get_d_behind : (k : ℕ) (d : A) → (k ≡ 0 → ⊥) → get_or l (k - 1) d ≡ get_or (a ∷ l) k d
  get_d_behind zero d h = absurd (h refl)
  get_d_behind (suc k) d h = let e : suc k - 1 ≡ k = omega arith in rw e

  pub set-behind : (k : ℕ) (b : A) → (k ≡ 0 → ⊥) → a ∷ set l (k - 1) b ≡ set (a ∷ l) k b
  set-behind zero b h = absurd (h refl)
  set-behind (suc k) b h = let e : suc k - 1 ≡ k = omega arith in rw e
