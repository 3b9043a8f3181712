-- Laws of bytes in hexadecimal digits: the value of a digit, the byte of two, and what reading them keeps from turn to turn. Assumes
-- nothing.
use Prim.Native.Nat.{ℕ, ◌+◌, ◌-◌, ◌*◌, ◌/◌, ◌<◌, ◌≤◌}
use native.Mathlib.Omega.{arith}
use native.Mathlib.Numerals.{add-one}
use mathlib.Core.Path.{◌≡◌, refl, sym, ◌∙◌}
use mathlib.Core.Bool.{true, false, true≢false, ◌&&◌}
use mathlib.Core.List.{List, [], ◌∷◌}
use mathlib.Core.Option.{Option, none, some, none-ne-some}
use lib.Dec.{leb, eqb}
use lib.ListN.{length, drop, get_or, set, length-set, drop_of_length-le}
use lib.Seq.{sets}
use borrow.Author.Tests.{le-leb, lt-leb, leb-true}
use Rattle.types.proofs.Cases.{split, both}
use Rattle.text.specs.Words.{same_bytes, isDigit, is_empty, is_hex, hex_value, hex_digit, hex_byte, all_hex, hex_bytes, is_bytes, Decoded}
use Rattle.std.specs.Prelude as std
use Rattle.text.proofs.Parsing.{drop-next}

-- ## a digit
module _ (c : ℕ) where
  pub hex_low : c < 48 → hex_digit c ≡ none
  hex_low h = rw (lt-leb 48 c h, lt-leb 97 c (omega arith))

  pub hex_decimal : 48 ≤ c → c ≤ 57 → hex_digit c ≡ some (c - 48)
  hex_decimal l h = rw (le-leb 48 c l, le-leb c 57 h)

  pub hex_between : 57 < c → c < 97 → hex_digit c ≡ none
  hex_between l h = rw (le-leb 48 c (omega arith), lt-leb c 57 l, lt-leb 97 c h)

  pub hex_letter : 97 ≤ c → c ≤ 102 → hex_digit c ≡ some (c - 87)
  hex_letter l h = rw (le-leb 48 c (omega arith), lt-leb c 57 (omega arith), le-leb 97 c l, le-leb c 102 h)

  pub hex_high : 102 < c → hex_digit c ≡ none
  hex_high h = rw (le-leb 48 c (omega arith), lt-leb c 57 (omega arith), le-leb 97 c (omega arith), lt-leb c 102 h)

  -- what the answer says of it
  pub no_digit : hex_digit c ≡ none → is_hex c ≡ false
  no_digit e = split (is_hex c) (λ t. absurd (none-ne-some (hex_value c) (sym (rw t at e)))) (λ f. f)

  pub is_digit : (v : ℕ) → hex_digit c ≡ some v → (is_hex c ≡ true) × (hex_value c ≡ v)
  is_digit v e =
      split (is_hex c)
      (λ t. (t, let s : ◌≡◌ {A = Option ℕ} (some (hex_value c)) (some v) = rw t at e in cc))
      (λ f. absurd (none-ne-some v (rw f at e)))

  pub digit-small : is_hex c ≡ true → hex_value c ≤ 15
  digit-small t =
      split (isDigit c)
      (λ d. rw d (omega (arith, leb-true c 57 (both (leb 48 c) (leb c 57) d).1)))
      (λ d.
      let l : (leb 97 c && leb c 102) ≡ true = rw d at t in
      rw d (omega (arith, leb-true c 102 (both (leb 97 c) (leb c 102) l).1)))

-- ## two of them
module _ (a b : ℕ) where
  pub first_none : hex_digit a ≡ none → hex_byte a b ≡ none
  first_none e = rw (no_digit a e)

  pub second_none : (v : ℕ) → hex_digit a ≡ some v → hex_digit b ≡ none → hex_byte a b ≡ none
  second_none v e f = rw ((is_digit a v e).0, no_digit b f)

  module _ (v w : ℕ) (e : hex_digit a ≡ some v) (f : hex_digit b ≡ some w) where
    pub both_small : (v ≤ 15) × (w ≤ 15)
    both_small =
        (omega (arith, (is_digit a v e).1, digit-small a (is_digit a v e).0), omega (arith, (is_digit b w f).1, digit-small b (is_digit b w f).0))

    pub both-digits : hex_byte a b ≡ some (v * 16 + w)
    both-digits = rw ((is_digit a v e).0, (is_digit b w f).0, (is_digit a v e).1, (is_digit b w f).1)

  no_byte : hex_byte a b ≡ none → (is_hex a && is_hex b) ≡ false
  no_byte e = split (is_hex a && is_hex b) (λ t. absurd (none-ne-some _ (sym (rw t at e)))) (λ f. f)

  is_byte : (v : ℕ) → hex_byte a b ≡ some v → ((is_hex a && is_hex b) ≡ true) × (hex_value a * 16 + hex_value b ≡ v)
  is_byte v e =
      split (is_hex a && is_hex b)
      (λ t. (t, let s : ◌≡◌ {A = Option ℕ} (some (hex_value a * 16 + hex_value b)) (some v) = rw t at e in cc))
      (λ f. absurd (none-ne-some v (rw f at e)))

-- ## a word
-- the bytes of a word are being read: `count` of them are in `out`, and the digits from `at` on are left
pub record Decoding (w before out : List ℕ) (count at : ℕ) : Type 0 where
  pub size : length out ≡ length before
  pub good : all_hex (drop at w) ≡ all_hex w
  pub counted : at ≡ 2 * count
  pub rest : sets out count (hex_bytes (drop at w)) ≡ sets before 0 (hex_bytes w)

module _ (w before : List ℕ) where
  pub decoding_none : Decoding w before before 0 0
  decoding_none = record { size = refl; good = refl; counted = omega arith; rest = refl }

  -- a word that is neither - nor empty
  pub plainly : same_bytes w (45 ∷ []) ≡ false → 0 < length w → is_bytes w ≡ all_hex w
  plainly s h = rw (s, begun w h)
    where
      begun : (v : List ℕ) → 0 < length v → is_empty v ≡ false
      begun [] l = absurd (omega arith)
      begun (c ∷ cs) l = refl

  module _ (out : List ℕ) (count at : ℕ) (g : Decoding w before out count at) where
    module _ (h : at + 1 < length w) where
      left : drop at w ≡ get_or w at 0 ∷ get_or w (at + 1) 0 ∷ drop (at + 1 + 1) w
      left = rw (drop-next w at (omega arith), drop-next w (at + 1) h)

      pub decoding_more : (v : ℕ) → hex_byte (get_or w at 0) (get_or w (at + 1) 0) ≡ some v → Decoding w before (set out count v) (count + 1) (at + 1 + 1)
      unfolding all_hex hex_bytes
      decoding_more v e =
          let t = is_byte (get_or w at 0) (get_or w (at + 1) 0) v e in
          record {
            size = length-set out count v ∙ g.size;
            good = rw (left, t.0) at g.good;
            counted = omega (arith, g.counted);
            rest = rw add-one (rw (left, t.0, t.1) at g.rest);
          }

      pub decoded-bad : is_bytes w ≡ all_hex w → hex_byte (get_or w at 0) (get_or w (at + 1) 0) ≡ none → Decoded w before std.None out
      unfolding all_hex hex_bytes
      decoded-bad p e =
          let f = no_byte (get_or w at 0) (get_or w (at + 1) 0) e in
          record { count = rw (p, ← g.good, left, f); filled = rw (left, f) at g.rest }

    pub decoded_odd : is_bytes w ≡ all_hex w → at + 1 ≡ length w → Decoded w before std.None out
    unfolding all_hex hex_bytes
    decoded_odd p e =
        let one : drop at w ≡ get_or w at 0 ∷ [] = rw (drop-next w at (omega arith), drop_of_length-le w {i = at + 1} (omega arith)) in
        record { count = rw (p, ← g.good, one); filled = rw one at g.rest }

    pub decoded-all : is_bytes w ≡ all_hex w → at ≡ length w → Decoded w before (std.Some count) out
    unfolding all_hex hex_bytes
    decoded-all p e =
        let none_left : drop at w ≡ [] = drop_of_length-le w {i = at} (omega arith) in
        let n : length w / 2 ≡ count = omega (arith, g.counted) in
        record { count = rw (p, ← g.good, none_left, n); filled = rw none_left at g.rest }

-- the word -
pub decoded_dash : (w before : List ℕ) → same_bytes w (45 ∷ []) ≡ true → Decoded w before (std.Some 0) before
unfolding hex_bytes
decoded_dash [] before s = absurd (true≢false (sym s))
decoded_dash (c ∷ []) before s = record { count = rw s; filled = refl }
decoded_dash (c ∷ d ∷ cs) before s = absurd (true≢false (split (eqb c 45) (λ t. sym (rw t at s)) (λ f. sym (rw f at s))))

pub decoded-empty : (w before : List ℕ) → length w ≡ 0 → Decoded w before std.None before
unfolding hex_bytes
decoded-empty [] before e = record { count = refl; filled = refl }
decoded-empty (c ∷ cs) before e = absurd (omega arith)
