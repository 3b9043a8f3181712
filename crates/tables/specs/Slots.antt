-- A column whose elements are stored elsewhere, each at its slot: a place of another column, so that they stay where they are
-- while the slots move.
-- SPEC.md, "Forms".
use Rattle.std.specs.Prelude.{ℕ, zero, suc, ◌-◌, ◌≡◌, cond, List, [], ◌∷◌, ◌++◌, map, ltb, get_or, take, drop}
use Rattle.types.specs.Lists.{times}
use Rattle.types.specs.Zipped.{removed}

-- the elements at the slots, d where a slot is no place of the column
unfoldable pub through : {A : Type 0} → A → List ℕ → List A → List A
through d slots column = map (λ s. get_or column s d) slots

-- the numbers below n in some order: each stands once, and no other does
pub record Permutes (n : ℕ) (slots : List ℕ) : Type 0 where
  pub each : (k : ℕ) → times k slots ≡ cond (ltb k n) 1 0

-- in their own order
abbrev pub upTo : ℕ → List ℕ
upTo zero = []
upTo (suc n) = upTo n ++ n ∷ []

-- of the first n, those from `from` up to `to` moved behind the others
abbrev pub set_aside : {A : Type 0} → ℕ → ℕ → ℕ → List A → List A
set_aside n from to l = removed from to (take n l) ++ take (to - from) (drop from (take n l)) ++ drop n l
