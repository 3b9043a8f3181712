-- What stands at the places of a list, and numbers that are the same one by one. Assumes nothing.
use Prim.Native.Nat.{ℕ, zero, suc, ◌+◌, ◌-◌, ◌≤◌, ◌<◌, min}
use native.Mathlib.Omega.{arith}
use mathlib.Core.Path.{◌≡◌, refl, sym, ap, ◌∙◌}
use mathlib.Core.List.{List, [], ◌∷◌, ◌++◌}
use lib.Dec.{ltb}
use lib.ListN.{length, take, get_or, replicate, length-take, length-append, length-replicate, get_or-append, get_or-eq_default}
use lib.Seq.{get_or-take, get_or-append-add, take_all, take-length}
use borrow.Author.Tests.{ltb-true, ltb-false}
use Rattle.types.proofs.Cases.{split}
use Rattle.machine.specs.Answers.{first_places}
use Rattle.answers.specs.Numbers.{numbers}

-- behind a list there are zeros
zero-at : (n i : ℕ) → get_or {A = ℕ} (replicate n 0) i 0 ≡ 0
zero-at zero i = refl
zero-at (suc n) zero = refl
zero-at (suc n) (suc i) = zero-at n i

zero-behind : (l : List ℕ) (n i : ℕ) → length l ≤ i → get_or (l ++ replicate n 0) i 0 ≡ 0
zero-behind [] n i h = zero-at n i
zero-behind (x ∷ l) n zero h = absurd (omega arith)
zero-behind (x ∷ l) n (suc i) h = zero-behind l n i (omega arith)

-- the first n places of a list, 0 past its end: what stands at each, and how many they are
module _ (n : ℕ) (l : List ℕ) where
  pub first-length : length (first_places n l) ≡ n
  first-length = length-take n (l ++ replicate n 0) ∙ simp (length-append, length-replicate) (omega arith)

  module _ (i : ℕ) where
    pub first-at : i < n → i < length l → get_or (first_places n l) i 0 ≡ get_or l i 0
    first-at h k = get_or-take n (l ++ replicate n 0) i 0 h ∙ get_or-append l (replicate n 0) 0 i k

    pub first_past : i < n → length l ≤ i → get_or (first_places n l) i 0 ≡ 0
    first_past h k = get_or-take n (l ++ replicate n 0) i 0 h ∙ zero-behind l n i k

    pub first-behind : n ≤ i → get_or (first_places n l) i 0 ≡ 0
    first-behind h = get_or-eq_default (first_places n l) 0 {n = i} (rw first-length h)

-- what stands at a place of two lists, one behind the other
module _ (k l : List ℕ) (i : ℕ) where
  pub at_front : i < length k → get_or (k ++ l) i 0 ≡ get_or k i 0
  at_front h = get_or-append k l 0 i h

  pub at-behind : length k ≤ i → get_or (k ++ l) i 0 ≡ get_or l (i - length k) 0
  at-behind h =
      let there : length k + (i - length k) ≡ i = omega arith in
      ap (λ (j : ℕ). get_or (k ++ l) j 0) (sym there) ∙ get_or-append-add k l (i - length k) 0

-- the first n places of a list, as far as it goes
pub first_shorter : (n : ℕ) (l : List ℕ) → take (min n (length l)) l ≡ take n l
first_shorter n l =
    split (ltb (length l) n)
    (λ t.
    let past = ltb-true (length l) n t in
    let all : min n (length l) ≡ length l = omega arith in
    rw all (take-length l ∙ sym (take_all n l (omega arith))))
    (λ t.
    let within = ltb-false (length l) n t in
    let some : min n (length l) ≡ n = omega arith in
    rw some)

-- numbers that are the same one by one
pub same_numbers : {n a b c d e f a' b' c' d' e' f' : ℕ} → a ≡ a' → b ≡ b' → c ≡ c' → d ≡ d' → e ≡ e' → f ≡ f'
    → numbers n a b c d e f ≡ numbers n a' b' c' d' e' f'
same_numbers p q r s t u = cc
