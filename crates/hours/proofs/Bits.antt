-- Bits of a number: what is left of a day from a half hour on, and what the counts of ones and of trailing zeros say of it.
-- Assumes nothing.
use Prim.Native.Nat.{ℕ, zero, suc, ◌+◌, ◌-◌, ◌/◌, ◌%◌, ◌^◌, ◌≤◌, ◌<◌}
use native.Mathlib.Nat.{div-one, mod-lt}
use native.Mathlib.Omega.{arith}
use mathlib.Core.Path.{◌≡◌, refl, sym, ap, ◌∙◌}
use mathlib.Core.Bool.{true, false}
use lib.Dec.{eqb}
use lib.Arith.{bin_ind}
use lib.Pow.{shr-shr, shr_lt, field, mod-mod-pow, pow_pos}
use lib.Count.{ones, ones_step, count_trailing_zeros}
use borrow.Author.Tests.{eqb-true, eqb-false}
use Rattle.types.proofs.Cases.{split}
use Rattle.hours.specs.Hours.{bit}

-- ## a bit, lowest first
bit-first : (n : ℕ) → bit n 0 ≡ eqb (n % 2) 1
bit-first n = rw (div-one n)

bit-next : (n j : ℕ) → bit n (suc j) ≡ bit (n / 2) j
bit-next n j = rw (suc_add j) (ap (λ (q : ℕ). eqb (q % 2) 1) (sym (shr-shr n 1 j)))
  where
    suc_add : (k : ℕ) → suc k ≡ 1 + k
    suc_add k = omega arith

pub no-bit : (j : ℕ) → bit 0 j ≡ false
no-bit zero = refl
no-bit (suc j) = bit-next 0 j ∙ no-bit j

-- ## trailing zeros: the lowest set bit
tz_odd : (k n : ℕ) → eqb (n % 2) 1 ≡ true → count_trailing_zeros (suc k) n ≡ 0
unfolding count_trailing_zeros
tz_odd k n e = rw (eqb-true (n % 2) 1 e)

tz_even : (k n : ℕ) → eqb (n % 2) 1 ≡ false → count_trailing_zeros (suc k) n ≡ suc (count_trailing_zeros k (n / 2))
unfolding count_trailing_zeros
tz_even k n e = let z : n % 2 ≡ 0 = omega (arith, eqb-false (n % 2) 1 e) in rw z

tz_none : (n : ℕ) → count_trailing_zeros 0 n ≡ 0
unfolding count_trailing_zeros
tz_none n = refl

-- a number that has a bit among its k lowest has its lowest one there
pub zeros-few : (k d n : ℕ) → d ≤ k → n < 2 ^ d → 0 < n → count_trailing_zeros k n < d
zeros-few k zero n l s p = absurd (omega arith)
zeros-few zero (suc d) n l s p = absurd (omega arith)
zeros-few (suc k) (suc d) n l s p =
    split (eqb (n % 2) 1) (λ t. omega (arith, tz_odd k n t))
    (λ t.
    let more = zeros-few k d (n / 2) (omega arith) (omega arith) (omega (arith, eqb-false (n % 2) 1 t)) in
    omega (arith, tz_even k n t))

-- below it none is set
pub below-zeros : (k n j : ℕ) → j < count_trailing_zeros k n → bit n j ≡ false
below-zeros zero n j l = absurd (omega (arith, tz_none n))
below-zeros (suc k) n zero l = split (eqb (n % 2) 1) (λ t. absurd (omega (arith, tz_odd k n t))) (λ t. bit-first n ∙ t)
below-zeros (suc k) n (suc j) l =
    split (eqb (n % 2) 1) (λ t. absurd (omega (arith, tz_odd k n t)))
    (λ t. bit-next n j ∙ below-zeros k (n / 2) j (omega (arith, tz_even k n t)))

-- it is set itself
pub at-zeros : (k n : ℕ) → count_trailing_zeros k n < k → bit n (count_trailing_zeros k n) ≡ true
at-zeros zero n l = absurd (omega arith)
at-zeros (suc k) n l =
    split (eqb (n % 2) 1) (λ t. rw (tz_odd k n t) (bit-first n ∙ t))
    (λ t. rw (tz_even k n t) (bit-next n (count_trailing_zeros k (n / 2)) ∙ at-zeros k (n / 2) (omega (arith, tz_even k n t))))

-- ## ones: none just where the number is 0
pub no_ones : (n : ℕ) → ones n ≡ 0 → n ≡ 0
no_ones = bin_ind (λ (n : ℕ). ones n ≡ 0 → n ≡ 0) (λ e. refl)
    (λ n rest e.
    let low : n % 2 ≡ 0 = omega (arith, ones_step n) in
    let high : n / 2 ≡ 0 = rest (omega (arith, ones_step n)) in
    omega arith)

ones_of_zero : ones 0 ≡ 0
unfolding ones
ones_of_zero = refl

pub some_ones : (n : ℕ) → (ones n ≡ 0 → ⊥) → 0 < n
some_ones zero h = absurd (h ones_of_zero)
some_ones (suc n) h = omega arith

-- ## what is left of a day from half hour b on
module _ (day b : ℕ) (within : b < 48) where
  abbrev left : ℕ
  left = day % 2 ^ 48 / 2 ^ b

  pub left-bit : (j : ℕ) → b + j < 48 → bit left j ≡ bit day (b + j)
  left-bit j l =
      let i : ℕ = 47 - (b + j) in
      let e : (47 - (b + j)) + 1 + (b + j) ≡ 48 = omega arith in
      ap (λ (q : ℕ). eqb (q % 2) 1)
      (shr-shr (day % 2 ^ 48) b j ∙ ap (λ (q : ℕ). day % 2 ^ q / 2 ^ (b + j)) (sym e) ∙ field day ((47 - (b + j)) + 1) (b + j))
      ∙ ap (λ (q : ℕ). eqb q 1) (mod-mod-pow (day / 2 ^ (b + j)) (47 - (b + j)) 1)

  pub left-few : left < 2 ^ (48 - b)
  left-few =
      let e : 48 - b + b ≡ 48 = omega arith in
      shr_lt (48 - b) b (rw e (mod-lt day (pow_pos 48)))
