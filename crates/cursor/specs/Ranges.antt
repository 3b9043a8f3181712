-- Ranges [start, end) of offsets, in lists: what lies in them, when they are in order, and how an offset joins them.
-- SPEC.md, "Cursor".
use Rattle.std.specs.Prelude.{ℕ, ◌+◌, ◌-◌, ◌≤◌, ◌<◌, Bool, false, cond, ◌&&◌, ◌||◌, List, [], ◌∷◌, ltb, leb, eqb}
use Rattle.types.specs.Limits.{MAX}
use Rattle.cursor.specs.declared.Range.{Range}

abbrev pub range : ℕ → ℕ → Range
range start end = record { start = start; end = end }

-- each range is nonempty and starts above the end of the one before, the first above lo; no end is past MAX
abbrev pub Above : ℕ → List Range → Type 0
Above lo [] = Unit {0}
Above lo (r ∷ rs) = (lo < r.start) × (r.start < r.end) × (r.end ≤ MAX) × Above r.end rs

-- each end is a u64
abbrev pub EndsFit : List Range → Type 0
EndsFit [] = Unit {0}
EndsFit (r ∷ rs) = (r.end ≤ MAX) × EndsFit rs

-- the offset lies in one of the ranges
abbrev pub inside : ℕ → List Range → Bool
inside o [] = false
inside o (r ∷ rs) = (leb r.start o && ltb o r.end) || inside o rs

-- one of the ranges ends at the offset or starts right behind it
abbrev pub touches : ℕ → List Range → Bool
touches o [] = false
touches o (r ∷ rs) = eqb r.end o || (eqb r.start (o + 1) || touches o rs)

-- [start, end) in front of ranges, as one with the first of them where that starts at end
abbrev pub joined : ℕ → ℕ → List Range → List Range
joined start end [] = range start end ∷ []
joined start end (r ∷ rs) = cond (eqb r.start end) (range start r.end ∷ rs) (range start end ∷ r ∷ rs)

-- an offset that lies in none of the ranges goes before the first that starts above it, and joins those that it touches
abbrev pub insert : ℕ → List Range → List Range
insert o [] = range o (o + 1) ∷ []
insert o (r ∷ rs) =
    cond (ltb o r.start) (joined o (o + 1) (r ∷ rs))
    (cond (eqb r.end o) (joined r.start (o + 1) rs) (r ∷ insert o rs))

-- how many offsets lie in the ranges
abbrev pub offsets : List Range → ℕ
offsets [] = 0
offsets (r ∷ rs) = (r.end - r.start) + offsets rs
