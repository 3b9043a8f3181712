-- The words of a line, and the decimal numbers and the bytes among them. A line is a list of bytes; words are separated by one space each, so
-- two spaces have an empty word between them.
-- SPEC.md, "Programs".
use Rattle.std.specs.Prelude.{ℕ, suc, ◌+◌, ◌-◌, ◌*◌, ◌/◌, ◌≤◌, max, ◌≡◌, Bool, true, false, not, cond, ◌&&◌, ◌||◌, List, [], ◌∷◌, leb, eqb, length, take, drop}
use Rattle.std.specs.Prelude as std
use Rattle.std.proofs.Math.Option.{Option, none, some}
use Rattle.std.proofs.lemmas.List.Edits.{sets}
use Rattle.types.specs.Limits.{MAX}
use Rattle.types.specs.Refused.{option_of}

abbrev pub SPACE : ℕ
SPACE = 32

-- two words are the same
abbrev pub same_bytes : List ℕ → List ℕ → Bool
same_bytes [] [] = true
same_bytes [] (d ∷ ds) = false
same_bytes (c ∷ cs) [] = false
same_bytes (c ∷ cs) (d ∷ ds) = eqb c d && same_bytes cs ds

-- a byte in front of the first word
abbrev pub grown : ℕ → List (List ℕ) → List (List ℕ)
grown c [] = (c ∷ []) ∷ []
grown c (w ∷ ws) = (c ∷ w) ∷ ws

-- what stands between the bytes that are c
unfoldable pub parts : ℕ → List ℕ → List (List ℕ)
parts c [] = [] ∷ []
parts c (b ∷ bs) = cond (eqb b c) ([] ∷ parts c bs) (grown b (parts c bs))

abbrev pub behind_first : List (List ℕ) → List (List ℕ)
behind_first [] = []
behind_first (w ∷ ws) = ws

-- the parts behind the first
abbrev pub later_parts : ℕ → List ℕ → List (List ℕ)
later_parts c bs = behind_first (parts c bs)

-- how many bytes stand in front of the first c
unfoldable pub length_to : ℕ → List ℕ → ℕ
length_to c [] = 0
length_to c (b ∷ bs) = cond (eqb b c) 0 (suc (length_to c bs))

abbrev pub first_part : ℕ → List ℕ → List ℕ
first_part c bs = take (length_to c bs) bs

-- the words behind the first
abbrev pub later_words : List ℕ → List (List ℕ)
later_words line = later_parts SPACE line

-- the place of the first c from a place on, or the end
pub record FoundAt (c from : ℕ) (bs : List ℕ) (r : ℕ) : Type 0 where
  pub is : r ≡ from + length_to c (drop from bs)
  pub behind : from ≤ r
  pub inside : r ≤ max from (length bs)

-- ## numbers
abbrev pub isDigit : ℕ → Bool
isDigit c = leb 48 c && leb c 57

unfoldable pub all_digits : List ℕ → Bool
all_digits [] = true
all_digits (c ∷ cs) = isDigit c && all_digits cs

-- the number of digits that stand behind n
unfoldable pub value_from : ℕ → List ℕ → ℕ
value_from n [] = n
value_from n (c ∷ cs) = value_from (n * 10 + (c - 48)) cs

abbrev pub value : List ℕ → ℕ
value w = value_from 0 w

abbrev pub is_empty : List ℕ → Bool
is_empty [] = true
is_empty (c ∷ cs) = false

-- one or more digits that make a u64
abbrev pub is_number : List ℕ → Bool
is_number w = not (is_empty w) && (all_digits w && leb (value w) MAX)

abbrev pub number : List ℕ → Option ℕ
number w = cond (is_number w) (some (value w)) none

-- a number with one more digit behind it, where that is one and a u64 holds it
abbrev pub with_digit : ℕ → ℕ → Option ℕ
with_digit n c = cond (isDigit c && leb (n * 10 + (c - 48)) MAX) (some (n * 10 + (c - 48))) none

-- ## the numbers of words
unfoldable pub all_numbers : List (List ℕ) → Bool
all_numbers [] = true
all_numbers (w ∷ ws) = is_number w && all_numbers ws

-- those in front of the first word that is none
unfoldable pub leading : List (List ℕ) → List ℕ
leading [] = []
leading (w ∷ ws) = cond (is_number w) (value w ∷ leading ws) []

-- what `numbers` answers of words, and what a lent list has then
pub record Gathered (ws : List (List ℕ)) (before : List ℕ) (r : std.Option ℕ) (out : List ℕ) : Type 0 where
  pub count : option_of (λ n. n) r ≡ cond (all_numbers ws) (some (length ws)) none
  pub filled : out ≡ sets before 0 (leading ws)

-- ## bytes: two lower-case hexadecimal digits for each, or - for none at all
abbrev pub is_hex : ℕ → Bool
is_hex c = isDigit c || (leb 97 c && leb c 102)

abbrev pub hex_value : ℕ → ℕ
hex_value c = cond (isDigit c) (c - 48) (c - 87)

-- a digit, and a byte of two of them
abbrev pub hex_digit : ℕ → Option ℕ
hex_digit c = cond (is_hex c) (some (hex_value c)) none

abbrev pub hex_byte : ℕ → ℕ → Option ℕ
hex_byte a b = cond (is_hex a && is_hex b) (some (hex_value a * 16 + hex_value b)) none

-- all digits stand two by two
unfoldable pub all_hex : List ℕ → Bool
all_hex [] = true
all_hex (a ∷ []) = false
all_hex (a ∷ b ∷ cs) = (is_hex a && is_hex b) && all_hex cs

-- the bytes of those in front of the first two that are none
unfoldable pub hex_bytes : List ℕ → List ℕ
hex_bytes [] = []
hex_bytes (a ∷ []) = []
hex_bytes (a ∷ b ∷ cs) = cond (is_hex a && is_hex b) ((hex_value a * 16 + hex_value b) ∷ hex_bytes cs) []

abbrev pub is_bytes : List ℕ → Bool
is_bytes w = same_bytes w (45 ∷ []) || (not (is_empty w) && all_hex w)

-- what `parse_bytes` answers of a word, and what a lent list has then
pub record Decoded (w : List ℕ) (before : List ℕ) (r : std.Option ℕ) (out : List ℕ) : Type 0 where
  pub count : option_of (λ n. n) r ≡ cond (is_bytes w) (some (length w / 2)) none
  pub filled : out ≡ sets before 0 (hex_bytes w)
