-- A list of words, some of which are numbers by themselves and some of which lie side by side as columns.
-- SPEC.md, "Forms".
use Rattle.std.specs.Prelude.{ℕ, ◌+◌, Bool, true, cond, List, ◌++◌, leb, take, drop, get_or}

-- the word at a place
abbrev pub word : ℕ → List ℕ → ℕ
word i w = get_or w i 0

-- the n words from a place on
unfoldable pub column : ℕ → ℕ → List ℕ → List ℕ
column from n w = take n (drop from w)

-- a column's words after others were put in their place, as a stretch that was lent comes back
unfoldable pub spliced : ℕ → ℕ → List ℕ → List ℕ → List ℕ
spliced from n c w = take from w ++ (c ++ drop n (drop from w))

-- two stretches, each by its first place and its length, have no place in common: computed, where the four numbers are known
abbrev pub apart : ℕ → ℕ → ℕ → ℕ → Bool
apart a n b m = cond (leb (a + n) b) true (leb (b + m) a)
