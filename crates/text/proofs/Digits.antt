-- The digits that `io` writes are those of the definitions: the fewest decimal digits that hold a number are its decimal digits,
-- and two hexadecimal digits hold a byte. Assumes nothing.
use Prim.Native.Nat.{ℕ, zero, suc, ◌-◌, ◌/◌, ◌%◌, ◌*◌, ◌^◌, ◌≤◌, ◌<◌}
use native.Mathlib.Nat.{pow-suc, mod-eq_of_lt, zero-lt-suc, div-lt_iff_lt-mul, le-div_iff_mul-le, pow-le-pow_right}
use native.Mathlib.Omega.{arith}
use mathlib.Core.Path.{◌≡◌, refl, ap, ◌∙◌}
use mathlib.Core.List.{List, [], ◌∷◌, ◌++◌}
use borrow.Author.Tests.{lt-ltb, le-ltb}
use Rattle.io.specs.Digits.{hex_digit_ascii, last_digits, IsDigitCount}
use Rattle.text.specs.Output.{decimal_in, decimal, hexadecimal}

one_less : (i : ℕ) → suc i - 1 ≡ i
one_less i = omega arith

-- one digit less holds a tenth
tenth : (i n : ℕ) → IsDigitCount 10 1 n (suc (suc i)) → IsDigitCount 10 1 (n / 10) (suc i)
tenth i n f = (
  omega arith,
  (div-lt_iff_lt-mul (zero-lt-suc 9)).1 (rw pow-suc at f.1),
  λ more. rw (one_less i) ((le-div_iff_mul-le (zero-lt-suc 9)).1 (rw (one_less, pow-suc) at (f.2 (omega arith)))),
)

ten-at-least : (i n : ℕ) → IsDigitCount 10 1 n (suc (suc i)) → 10 ≤ n
ten-at-least i n f =
    let p : 10 ^ i * 10 ≤ n = rw (one_less, pow-suc) at (f.2 (omega arith)) in
    let o : 1 ≤ 10 ^ i = pow-le-pow_right (zero-lt-suc 9) {i = 0} {j = i} (omega arith) in
    omega arith

decimal-within : (k most n : ℕ) → IsDigitCount 10 1 n k → k ≤ most → last_digits 10 k n ≡ decimal_in most n
unfolding decimal_in
decimal-within zero most n f h = absurd (omega arith)
decimal-within (suc k) zero n f h = absurd (omega arith)
decimal-within (suc zero) (suc most) n f h = rw (mod-eq_of_lt f.1, lt-ltb n 10 f.1)
decimal-within (suc (suc i)) (suc most) n f h =
    rw (le-ltb n 10 (ten-at-least i n f))
    (ap (λ (l : List ℕ). l ++ (hex_digit_ascii (n % 10) ∷ [])) (decimal-within (suc i) most (n / 10) (tenth i n f) (omega arith)))

below_power : (i : ℕ) → i < 10 ^ i
below_power zero = omega arith
below_power (suc i) = rw pow-suc (omega (arith, below_power i))

no_more : (k n : ℕ) → IsDigitCount 10 1 n k → k ≤ suc n
no_more zero n f = omega arith
no_more (suc zero) n f = omega arith
no_more (suc (suc i)) n f = omega (arith, below_power (suc i), rw one_less at (f.2 (omega arith)))

pub decimal-is : (k n : ℕ) → IsDigitCount 10 1 n k → last_digits 10 k n ≡ decimal n
decimal-is k n f = decimal-within k (suc n) n f (no_more k n f)

two_places : (k b : ℕ) → IsDigitCount 16 2 b k → b < 256 → k ≡ 2
two_places zero b f h = absurd (omega arith)
two_places (suc zero) b f h = absurd (omega arith)
two_places (suc (suc zero)) b f h = refl
two_places (suc (suc (suc i))) b f h =
    let p : 16 ^ i * 16 * 16 ≤ b = rw (one_less, pow-suc, pow-suc) at (f.2 (omega arith)) in
    let o : 1 ≤ 16 ^ i = pow-le-pow_right (zero-lt-suc 15) {i = 0} {j = i} (omega arith) in
    absurd (omega arith)

pub hexadecimal-is : (k b : ℕ) → IsDigitCount 16 2 b k → b < 256 → last_digits 16 k b ≡ hexadecimal b
hexadecimal-is k b f h =
    ap (λ (j : ℕ). last_digits 16 j b) (two_places k b f h)
    ∙ ap (λ (d : ℕ). hex_digit_ascii d ∷ hex_digit_ascii (b % 16) ∷ []) (mod-eq_of_lt ((div-lt_iff_lt-mul (zero-lt-suc 15)).1 h))
