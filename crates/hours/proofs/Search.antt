-- The search for an open half hour: what it finds, that it is the first, and that a day's remaining half hours, taken as a number,
-- have it at their trailing zeros. Assumes nothing.
use Prim.Native.Nat.{ℕ, zero, suc, ◌+◌, ◌*◌, ◌-◌, ◌/◌, ◌%◌, ◌^◌, ◌≤◌, ◌<◌}
use native.Mathlib.Omega.{arith}
use mathlib.Core.Path.{◌≡◌, refl, sym, ap, ◌∙◌}
use mathlib.Core.Bool.{true, false, true≢false}
use mathlib.Core.List.{List}
use lib.Dec.{ltb}
use lib.ListN.{get_or}
use lib.Count.{count_trailing_zeros}
use borrow.Author.Tests.{ltb-true, ltb-false}
use Rattle.types.proofs.Cases.{split}
use Rattle.hours.specs.Hours.{bit, open_half, firstOpen}
use Rattle.hours.proofs.Bits.{no-bit, zeros-few, below-zeros, at-zeros, left-bit, left-few}

-- ## what the search finds
module _ (days : List ℕ) where
  pub first-from : (n x : ℕ) → x ≤ firstOpen days x n
  unfolding firstOpen
  first-from zero x = omega arith
  first-from (suc n) x = split (open_half days x) (λ t. rw t (omega arith)) (λ t. rw t (omega (arith, first-from n (suc x))))

  pub first-within : (n x : ℕ) → firstOpen days x n ≤ x + n
  unfolding firstOpen
  first-within zero x = omega arith
  first-within (suc n) x = split (open_half days x) (λ t. rw t (omega arith)) (λ t. rw t (omega (arith, first-within n (suc x))))

  -- none before it is open
  pub first-least : (n x y : ℕ) → x ≤ y → y < firstOpen days x n → open_half days y ≡ false
  unfolding firstOpen
  first-least zero x y l m = absurd (omega arith)
  first-least (suc n) x y l m =
      split (open_half days x) (λ t. absurd (not_both l (rw t at m)))
      (λ t. split (ltb x y) (λ s. first-least n (suc x) y (omega (arith, ltb-true x y s)) (rw t at m)) (λ s. same (omega (arith, ltb-false x y s)) t))
    where
      not_both : x ≤ y → y < x → ⊥
      not_both p q = omega arith

      same : x ≡ y → open_half days x ≡ false → open_half days y ≡ false
      same e t = rw e at t

  -- it is open, where one of those looked at is
  pub first_open_lem : (n x : ℕ) → firstOpen days x n < x + n → open_half days (firstOpen days x n) ≡ true
  unfolding firstOpen
  first_open_lem zero x l = absurd (omega arith)
  first_open_lem (suc n) x l =
      split (open_half days x) (λ t. rw t t)
      (λ t. rw t (first_open_lem n (suc x) (less (rw t at l))))
    where
      less : firstOpen days (suc x) n < x + suc n → firstOpen days (suc x) n < suc x + n
      less q = omega arith

  module _ (x : ℕ) where
    -- so it is y, where y is open and none before it
    pub first-is : (n y : ℕ) → x ≤ y → y < x + n → open_half days y ≡ true
        → ((k : ℕ) → x ≤ k → k < y → open_half days k ≡ false) → firstOpen days x n ≡ y
    first-is n y l m o closed =
        split (ltb y (firstOpen days x n))
        (λ t. absurd (true≢false (sym o ∙ first-least n x y l (ltb-true y _ t))))
        (λ t.
        split (ltb (firstOpen days x n) y)
        (λ s.
        let less : firstOpen days x n < y = ltb-true _ y s in
        absurd (true≢false (sym (first_open_lem n x (omega arith)) ∙ closed (firstOpen days x n) (first-from n x) less)))
        (λ s. omega (arith, ltb-false y (firstOpen days x n) t, ltb-false (firstOpen days x n) y s)))

    pub first_none : (n : ℕ) → ((k : ℕ) → x ≤ k → k < x + n → open_half days k ≡ false) → firstOpen days x n ≡ x + n
    first_none n closed =
        split (ltb (firstOpen days x n) (x + n))
        (λ s.
        let less : firstOpen days x n < x + n = ltb-true _ _ s in
        absurd (true≢false (sym (first_open_lem n x less) ∙ closed (firstOpen days x n) (first-from n x) less)))
        (λ s. omega (arith, ltb-false (firstOpen days x n) (x + n) s, first-within n x))

  -- ## week by week
  pub open_again : (x y : ℕ) → x % 336 ≡ y % 336 → open_half days x ≡ open_half days y
  unfolding open_half
  open_again x y e =
      let d : x / 48 % 7 ≡ y / 48 % 7 = omega arith in
      let h : x % 48 ≡ y % 48 = omega arith in
      rw (d, h)

  pub first-again : (n x k : ℕ) → firstOpen days (x + 336 * k) n ≡ firstOpen days x n + 336 * k
  unfolding firstOpen
  first-again zero x k = refl
  first-again (suc n) x k =
      let e : open_half days (x + 336 * k) ≡ open_half days x = open_again (x + 336 * k) x (omega arith) in
      let next : suc x + 336 * k ≡ suc (x + 336 * k) = omega arith in
      split (open_half days x) (λ t. rw (e, t)) (λ t. rw (e, t) (rw next at (first-again n (suc x) k)))

  -- ## a day's remaining half hours, from half hour x on
  module _ (x : ℕ) where
    abbrev rest : ℕ
    rest = get_or days (x / 48 % 7) 0 % 2 ^ 48 / 2 ^ (x % 48)

    in_day : (j : ℕ) → x % 48 + j < 48 → open_half days (x + j) ≡ bit rest j
    unfolding open_half
    in_day j l =
        let d : (x + j) / 48 % 7 ≡ x / 48 % 7 = omega arith in
        let h : (x + j) % 48 ≡ x % 48 + j = omega arith in
        rw (d, h) (sym (left-bit (get_or days (x / 48 % 7) 0) (x % 48) (omega arith) j l))

    -- none is left
    pub rest-closed : rest ≡ 0 → (k : ℕ) → x ≤ k → k < x - x % 48 + 48 → open_half days k ≡ false
    rest-closed z k l m =
        let e : x + (k - x) ≡ k = omega arith in
        rw e at (in_day (k - x) (omega arith) ∙ ap (λ (q : ℕ). bit q (k - x)) z ∙ no-bit (k - x))

    -- the trailing zeros give the next
    pub rest-within : 0 < rest → x % 48 + count_trailing_zeros 64 rest < 48
    rest-within p =
        let few = zeros-few 64 (48 - x % 48) rest (omega arith) (left-few (get_or days (x / 48 % 7) 0) (x % 48) (omega arith)) p in
        omega arith

    pub rest_open : 0 < rest → open_half days (x + count_trailing_zeros 64 rest) ≡ true
    rest_open p = in_day (count_trailing_zeros 64 rest) (rest-within p) ∙ at-zeros 64 rest (omega (arith, rest-within p))

    pub rest-least : 0 < rest → (k : ℕ) → x ≤ k → k < x + count_trailing_zeros 64 rest → open_half days k ≡ false
    rest-least p k l m =
        let e : x + (k - x) ≡ k = omega arith in
        rw e at (in_day (k - x) (omega (arith, rest-within p)) ∙ below-zeros 64 rest (k - x) (omega arith))

    -- ## the search day by day, from half hour `from` on, at x
    module _ (from : ℕ) (below : from < 336) (behind : from ≤ x) (closed : (k : ℕ) → from ≤ k → k < x → open_half days k ≡ false) where
      pub day_closed : rest ≡ 0 → (k : ℕ) → from ≤ k → k < x - x % 48 + 48 → open_half days k ≡ false
      day_closed z k l m =
          split (ltb k x) (λ t. closed k l (ltb-true k x t)) (λ t. rest-closed z k (ltb-false k x t) m)

      before : 0 < rest → (k : ℕ) → from ≤ k → k < x + count_trailing_zeros 64 rest → open_half days k ≡ false
      before p k l m = split (ltb k x) (λ t. closed k l (ltb-true k x t)) (λ t. rest-least p k (ltb-false k x t) m)

      -- one found on the same weekday a week on would have been found at once
      pub day_found : x < from + 336 → 0 < rest → firstOpen days from 336 ≡ x + count_trailing_zeros 64 rest
      day_found l p =
          let y : ℕ = x + count_trailing_zeros 64 rest in
          split (ltb (x + count_trailing_zeros 64 rest) (from + 336))
          (λ t. first-is from 336 (x + count_trailing_zeros 64 rest) (omega arith) (ltb-true _ _ t) (rest_open p) (before p))
          (λ t.
          let late : from + 336 ≤ x + count_trailing_zeros 64 rest = ltb-false (x + count_trailing_zeros 64 rest) (from + 336) t in
          let again = open_again (x + count_trailing_zeros 64 rest) (x + count_trailing_zeros 64 rest - 336) (omega arith) in
          absurd (true≢false (sym (rest_open p) ∙ again ∙ before p (x + count_trailing_zeros 64 rest - 336) (omega arith) (omega arith))))
