-- The settled example 12, and that 18 comes before 19 where there are over 128 pairs.
-- SPEC.md, "Examples".
use Rattle.std.specs.Prelude.{ℕ, zero, suc, ◌≡◌, refl, List, [], ◌∷◌, replicate}
use Rattle.types.specs.Refusal.{refused, done, AttemptUnsupportedVersion, AttemptBadLength, NotSorted, TooManyPairs}
use Rattle.types.specs.Table.{checked}
use Rattle.types.specs.Keyed.{Entry, entry}
use Rattle.attempt.specs.Snapshot.{pairs_table, decode_attempts}

-- ten bytes of a version
abbrev ten : ℕ → (a b c d e f g h i : ℕ) → List ℕ
ten version a b c d e f g h i = version ∷ a ∷ b ∷ c ∷ d ∷ e ∷ f ∷ g ∷ h ∷ i ∷ []

-- attempt bytes, length 10: version 3 refusal 14, version 1 refusal 15
pub record Example12 (a b c d e f g h i : ℕ) : Type 0 where
  pub version_3 : decode_attempts (ten 3 a b c d e f g h i) ≡ refused (AttemptUnsupportedVersion 3)
  pub version_1 : decode_attempts (ten 1 a b c d e f g h i) ≡ refused (AttemptBadLength 10)

pub example_12 : (a b c d e f g h i : ℕ) → Example12 a b c d e f g h i
unfolding decode_attempts
example_12 a b c d e f g h i = record { version_3 = refl; version_1 = refl }

-- n pairs that rise from an offset on
abbrev from : ℕ → ℕ → List (Entry ℕ)
from zero o = []
from (suc n) o = entry o 1 ∷ from n (suc o)

-- 129 pairs: 18 where they don't rise, else 19
pub record OverLimit (l : List (Entry ℕ)) : Type 0 where
  pub level : checked (pairs_table (replicate 129 (entry 7 1))) (done l) ≡ refused (NotSorted 7 7)
  pub rising : checked (pairs_table (from 129 7)) (done l) ≡ refused TooManyPairs

pub over-limit : (l : List (Entry ℕ)) → OverLimit l
over-limit l = record { level = refl; rising = refl }
