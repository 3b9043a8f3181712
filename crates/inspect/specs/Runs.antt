-- The lines of a listing: which blocks a line is of, and how far a run of blocks goes of which the same is said.
-- SPEC.md, "Programs".
use Rattle.std.specs.Prelude.{ℕ, ◌-◌, ◌<◌, ◌≤◌, ◌≡◌, cond, List, [], ◌∷◌, eqb}
use Rattle.inspect.specs.Places.{place_at}
use Rattle.text.specs.Output.{ascii}
use Rattle.text.specs.Templates.{filled}
use Rattle.inspect.specs.declared.listing.Run.{Run}

-- one block, or the first and the last of several: those from block i up to the one before block j
abbrev pub blocks_said : ℕ → ℕ → List (List ℕ)
blocks_said i j = cond (eqb i (j - 1)) (filled (ascii "block #: ") (i ∷ [])) (filled (ascii "blocks # to #: ") (i ∷ (j - 1) ∷ []))

-- a run has a block, passes none of the n blocks of its half, and what is expected behind it is said
pub record ReachesTo (a : List ℕ) (half m n : ℕ) (r : Run) : Type 0 where
  pub further : m < r.end
  pub inside : r.end ≤ n
  pub place : r.place ≡ place_at a half r.end
