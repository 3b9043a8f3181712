-- Two sorted lists of counts in one, the larger count where a key stands in both.
-- SPEC.md, "Leases".
use Rattle.std.specs.Prelude.{ℕ, max, cond, List, [], ◌∷◌, ltb, eqb}
use Rattle.std.specs.Prelude as std
use Rattle.std.proofs.Math.Option.{Option, none, some}
use Rattle.types.specs.Keyed.{Entry, entry}
use Rattle.types.specs.Lists.{entry_of}
use Rattle.types.specs.Refused.{option_of}
use Rattle.types.specs.declared.Pair.{Pair}
use Rattle.tables.specs.declared.counts.Pick.{Pick}

-- an entry before the rest of its own list, merged with another list
abbrev pub merge_entry : Entry ℕ → (List (Entry ℕ) → List (Entry ℕ)) → List (Entry ℕ) → List (Entry ℕ)
merge_entry e rest [] = e ∷ rest []
merge_entry e rest (c ∷ l) =
    cond (ltb e.key c.key) (e ∷ rest (c ∷ l))
    (cond (eqb e.key c.key) (entry e.key (max c.value e.value) ∷ rest l) (c ∷ merge_entry e rest l))

abbrev pub merge : List (Entry ℕ) → List (Entry ℕ) → List (Entry ℕ)
merge [] l = l
merge (e ∷ k) l = merge_entry e (merge k) l

-- ## what the private helpers answer
-- the first of a list
abbrev pub first : List (Entry ℕ) → Option (Entry ℕ)
first [] = none
first (e ∷ l) = some e

abbrev pub head_of : std.Option Pair → Option (Entry ℕ)
head_of = option_of entry_of

-- an entry, and how many it takes of each list
abbrev pub taken : Entry ℕ → ℕ → ℕ → Pick
taken e i j = record { offset = e.key; attempt = e.value; left = i; right = j }

-- the first of two merged lists, of their first entries
abbrev pub lower : Entry ℕ → Entry ℕ → Pick
lower e c =
    cond (ltb e.key c.key) (taken e 1 0)
    (cond (ltb c.key e.key) (taken c 0 1) (taken (entry e.key (max c.value e.value)) 1 1))

abbrev pub picked : Option (Entry ℕ) → Option (Entry ℕ) → Pick
picked none none = taken (entry 0 0) 0 0
picked none (some c) = taken c 0 1
picked (some e) none = taken e 1 0
picked (some e) (some c) = lower e c
