-- Sorted lists of numbers, and the place of a number in one: what a binary search answers.
-- SPEC.md, "Forms".
use Rattle.std.specs.Prelude.{ℕ, suc, ◌≤◌, cond, List, [], ◌∷◌, ltb}

-- the first number is at least lo, and each later one above the one before
abbrev pub Ascending : ℕ → List ℕ → Type 0
Ascending lo [] = Unit {0}
Ascending lo (k ∷ ks) = (lo ≤ k) × Ascending (suc k) ks

-- how many numbers stand below x: the place of x among them
abbrev pub below : ℕ → List ℕ → ℕ
below x [] = 0
below x (k ∷ ks) = cond (ltb k x) (suc (below x ks)) 0

-- how many are at most x
abbrev pub upTo : ℕ → List ℕ → ℕ
upTo x ks = below (suc x) ks
