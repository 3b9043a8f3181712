-- The reverse of what is settled: the unsettled stretches between two numbers, and the nearest unsettled offset; what each is, and
-- how it is found in the ranges.
-- SPEC.md, "Open offsets".
use Rattle.std.specs.Prelude.{ℕ, suc, ◌/◌, ◌≤◌, ◌<◌, min, max, ◌≡◌, Bool, true, false, cond, not, ◌&&◌, List, [], ◌∷◌, ◌++◌, ltb, leb, length, drop}
use Rattle.types.specs.Refusal.{done, BoundsReversed, OutTooShort}
use Rattle.types.specs.Table.{Row, ◌⇒◌, Answer, answer, guarded}
use Rattle.cursor.specs.Ranges.{range, inside}
use Rattle.cursor.specs.Cursor.{Cursor, settled}
use Rattle.cursor.specs.declared.Range.{Range}

-- ## what they are
-- the offset lies in [a, b) and is not settled
abbrev pub open_in : Cursor → ℕ → ℕ → ℕ → Bool
open_in c a b o = leb a o && (ltb o b && not (settled c o))

-- each stretch holds an offset, starts above the end of the one before, the first at lo or above, and ends by b
abbrev pub Apart : ℕ → ℕ → List Range → Type 0
Apart lo b [] = Unit {0}
Apart lo b (r ∷ rs) = (lo ≤ r.start) × (r.start < r.end) × (r.end ≤ b) × Apart (suc r.end) b rs

-- all stretches of open offsets between a and b, the lowest first, no two of them side by side
pub record AreStretches (c : Cursor) (a b : ℕ) (l : List Range) : Type 0 where
  pub apart : Apart a b l
  pub hold : (o : ℕ) → inside o l ≡ open_in c a b o

-- the least unsettled offset at or above o
pub record IsNearest (c : Cursor) (o x : ℕ) : Type 0 where
  pub reached : o ≤ x
  pub unsettled : settled c x ≡ false
  pub least : (y : ℕ) → o ≤ y → y < x → settled c y ≡ true

-- ## how they are found
-- [x, y) in front of stretches, if it holds an offset
abbrev pub in_front : ℕ → ℕ → List Range → List Range
in_front x y l = cond (ltb x y) (range x y ∷ l) l

-- what ranges leave of [x, b)
abbrev pub left_by : List Range → ℕ → ℕ → List Range
left_by [] x b = in_front x b []
left_by (r ∷ rs) x b = in_front x (min b r.start) (left_by rs (max x r.end) b)

abbrev pub stretches : Cursor → ℕ → ℕ → List Range
stretches c a b = left_by c.ahead (max a c.committed) b

-- the end of the range that holds the offset, or else the offset
abbrev pub beyond : ℕ → List Range → ℕ
beyond o [] = o
beyond o (r ∷ rs) = cond (leb r.start o && ltb o r.end) r.end (beyond o rs)

abbrev pub nearest_open : Cursor → ℕ → ℕ
nearest_open c o = cond (ltb o c.committed) c.committed (beyond o c.ahead)

-- ## into lent memory
-- 32
abbrev pub bounds_table : ℕ → ℕ → List Row
bounds_table a b = ltb b a ⇒ BoundsReversed ∷ []

-- then 20 where there is no room for so many stretches
abbrev pub open_table : Cursor → ℕ → ℕ → ℕ → List Row
open_table c a b room = bounds_table a b ++ ltb room (length (stretches c a b)) ⇒ OutTooShort ∷ []

-- a list from the first place on, later places as they were
abbrev pub filled : {A : Type 0} → List A → List A → List A
filled l out = l ++ drop (length l) out

-- the stretches as records, and their number as the outcome
unfoldable pub open_between : Cursor → ℕ → ℕ → List Range → Answer ℕ (List Range)
open_between c a b out =
    guarded (open_table c a b (length out)) out (answer (done (length (stretches c a b))) (filled (stretches c a b) out))

-- as numbers, start and end of each
abbrev pub bounds : List Range → List ℕ
bounds [] = []
bounds (r ∷ rs) = r.start ∷ r.end ∷ bounds rs

-- the same in a list of numbers, of which a stretch takes two places: the outcome is how many places were filled
unfoldable pub open_numbers : Cursor → ℕ → ℕ → List ℕ → Answer ℕ (List ℕ)
open_numbers c a b out =
    guarded (open_table c a b (length out / 2)) out (answer (done (length (bounds (stretches c a b)))) (filled (bounds (stretches c a b)) out))
