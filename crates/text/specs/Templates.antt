-- Texts with numbers in them: each mark in a template stands for a number.
-- SPEC.md, "Programs".
use Rattle.std.specs.Prelude.{ℕ, List, [], ◌∷◌, get_or}
use Rattle.text.specs.Words.{first_part, later_parts}
use Rattle.text.specs.Output.{decimal, each}

-- the byte #
abbrev pub MARK : ℕ
MARK = 35

-- a template as pieces of text, with number i in place of mark i; 0 where there are fewer numbers
abbrev pub numbered : List ℕ → ℕ → List ℕ → List (List ℕ)
numbered numbers i part = decimal (get_or numbers i 0) ∷ part ∷ []

abbrev pub filled : List ℕ → List ℕ → List (List ℕ)
filled template numbers = first_part MARK template ∷ each (numbered numbers) 0 (later_parts MARK template)
