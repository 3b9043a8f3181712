-- Lines as they are read: the pieces of a template and of lists of ranges, put together, by computation.
-- SPEC.md, "Programs".
use Rattle.std.specs.Prelude.{ℕ, ◌≡◌, refl, List, [], ◌∷◌, ◌++◌}
use Rattle.text.specs.Output as output
use Rattle.text.specs.Output.{ascii}
use Rattle.text.specs.Words as words
use Rattle.text.specs.Templates.{filled}
use Rattle.cursor.specs.Ranges.{range}
use Rattle.shown.specs.Shown.{ranges_text}

abbrev joined : List (List ℕ) → List ℕ
joined [] = []
joined (p ∷ ps) = p ++ joined ps

-- the settled example 14
pub dead_letter_lem : joined (filled (ascii "deadletter # # #\n") (0 ∷ 4098 ∷ 3 ∷ 0 ∷ [])) ≡ ascii "deadletter 0 4098 3\n"
unfolding output.decimal_in words.length_to words.parts
dead_letter_lem = refl

pub no-range : joined (ranges_text []) ≡ ascii " ranges none"
no-range = refl

pub two-ranges : joined (ranges_text (range 8 10 ∷ range 12 13 ∷ [])) ≡ ascii " ranges 8-10,12-13"
unfolding output.decimal_in
two-ranges = refl
