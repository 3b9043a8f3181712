-- Bits of numbers: there and back, sums of bits, the parts of a register, its complement. Assumes nothing.
use Prim.Native.Nat.{ℕ, zero, suc, ◌+◌, ◌*◌, ◌/◌, ◌%◌, ◌^◌, ◌<◌}
use native.Mathlib.Omega.{arith}
use native.Mathlib.Nat.{mod-lt, zero-lt-suc, pow-suc, div-add-mod', div-lt_iff_lt-mul, zero-add, suc-add, div-one}
use native.Mathlib.Numerals.{add-one, one-add}
use mathlib.Core.Path.{◌≡◌, refl, sym, ap, ap₂, ◌∙◌}
use mathlib.Core.Bool.{Bool, true, false, cond, not, xor}
use mathlib.Core.List.{List, [], ◌∷◌, ◌++◌, map}
use lib.Arith.{lt-one}
use lib.Bits.{bit_xor, xor_shr, xor_mod}
use lib.Pow.{shr-shr, mod-mod-pow, field}
use lib.Dec.{eqb}
use lib.ListN.{length, replicate}
use Rattle.crc.specs.Crc32c.{bits, unbits, xors}

pub length-bits : (k n : ℕ) → length (bits k n) ≡ k
unfolding bits
length-bits zero n = refl
length-bits (suc k) n = ap suc (length-bits k (n / 2))

-- a number is its lowest bit and its half
low_bit : (n : ℕ) → n < 2 → cond (eqb n 1) 1 0 ≡ n
low_bit zero h = refl
low_bit (suc zero) h = refl
low_bit (suc (suc n)) h = absurd (omega arith)

pub unbits-bits : (k n : ℕ) → n < 2 ^ k → unbits (bits k n) ≡ n
unfolding bits unbits
unbits-bits zero n h = sym (lt-one h)
unbits-bits (suc k) n h =
    let r : unbits (bits k (n / 2)) ≡ n / 2 = unbits-bits k (n / 2) ((div-lt_iff_lt-mul (zero-lt-suc 1)).1 (rw pow-suc at h)) in
    rw (low_bit (n % 2) (mod-lt n (zero-lt-suc 1)), r) (omega (arith, div-add-mod' n 2))

pub unbits_lt : (l : List Bool) → unbits l < 2 ^ length l
unfolding unbits
unbits_lt [] = zero-lt-suc 0
unbits_lt (true ∷ l) = rw pow-suc (omega (arith, unbits_lt l))
unbits_lt (false ∷ l) = rw pow-suc (omega (arith, unbits_lt l))

pub bits-unbits : (l : List Bool) → bits (length l) (unbits l) ≡ l
unfolding bits unbits
bits-unbits [] = refl
bits-unbits (true ∷ l) =
    let h : (1 + 2 * unbits l) / 2 ≡ unbits l = omega arith in
    let o : (1 + 2 * unbits l) % 2 ≡ 1 = omega arith in
    rw (h, o, bits-unbits l)
bits-unbits (false ∷ l) =
    let h : (0 + 2 * unbits l) / 2 ≡ unbits l = omega arith in
    let o : (0 + 2 * unbits l) % 2 ≡ 0 = omega arith in
    rw (h, o, bits-unbits l)

digit : (x y : ℕ) → x < 2 → y < 2 → eqb (bit_xor x y) 1 ≡ xor (eqb x 1) (eqb y 1)
unfolding xor
digit zero zero h k = refl
digit zero (suc zero) h k = refl
digit (suc zero) zero h k = refl
digit (suc zero) (suc zero) h k = refl
digit zero (suc (suc y)) h k = absurd (omega arith)
digit (suc zero) (suc (suc y)) h k = absurd (omega arith)
digit (suc (suc x)) y h k = absurd (omega arith)

pub bits_xor : (k a b : ℕ) → bits k (bit_xor a b) ≡ xors (bits k a) (bits k b)
unfolding bits
bits_xor zero a b = refl
bits_xor (suc k) a b =
    ap₂ ◌∷◌
    (ap (λ (n : ℕ). eqb n 1) (xor_mod a b 1) ∙ digit (a % 2) (b % 2) (mod-lt a (zero-lt-suc 1)) (mod-lt b (zero-lt-suc 1)))
    (ap (bits k) (xor_shr a b 1) ∙ bits_xor k (a / 2) (b / 2))

-- the low j bits, and those above
pub bits-split : (j k n : ℕ) → bits (j + k) n ≡ bits j n ++ bits k (n / 2 ^ j)
unfolding bits
bits-split zero k n = rw (zero-add, div-one)
bits-split (suc j) k n =
    let half : n / 2 / 2 ^ j ≡ n / 2 ^ suc j = shr-shr n 1 j ∙ ap (λ (i : ℕ). n / 2 ^ i) (one-add j) in
    rw (suc-add, ← half) (ap (◌∷◌ (eqb (n % 2) 1)) (bits-split j k (n / 2)))

pub bits-low : (k n : ℕ) → bits k (n % 2 ^ k) ≡ bits k n
unfolding bits
bits-low zero n = refl
bits-low (suc k) n =
    let first : n % 2 ^ suc k % 2 ≡ n % 2 = rw (← add-one k) (mod-mod-pow n k 1) in
    let rest : n % 2 ^ suc k / 2 ≡ n / 2 % 2 ^ k = rw (← add-one k) (field n k 1) in
    rw (first, rest) (ap (◌∷◌ (eqb (n % 2) 1)) (bits-low k (n / 2)))

-- every bit turned
pub xors_ones : (l : List Bool) → xors l (replicate (length l) true) ≡ map not l
unfolding xor
xors_ones [] = refl
xors_ones (true ∷ l) = ap (◌∷◌ false) (xors_ones l)
xors_ones (false ∷ l) = ap (◌∷◌ true) (xors_ones l)
