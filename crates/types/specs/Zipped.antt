-- Two columns whose places together are the elements of one list, as the starts and the ends of ranges are; and what is
-- done to a place of a column.
-- SPEC.md, "Forms".
use Rattle.std.specs.Prelude.{ℕ, List, [], ◌∷◌, ◌++◌, take, drop}

module _ {A B C : Type 0} (f : A → B → C) where
  -- the elements of two columns, as far as both go
  abbrev pub zipped : List A → List B → List C
  zipped [] ys = []
  zipped (a ∷ xs) [] = []
  zipped (a ∷ xs) (b ∷ ys) = f a b ∷ zipped xs ys

module _ {A : Type 0} where
  -- a at place k, what stood from there on behind it
  abbrev pub inserted : ℕ → A → List A → List A
  inserted k a l = take k l ++ a ∷ drop k l

  -- without the places from j up to k
  abbrev pub removed : ℕ → ℕ → List A → List A
  removed j k l = take j l ++ drop k l
