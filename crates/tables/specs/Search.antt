-- Where a number belongs among numbers: what a search by halving answers, whatever the numbers are. Where they rise, the place
-- is the number of those below (`boundary_below`, proofs/Search.antt).
-- SPEC.md, "Forms".
use Rattle.std.specs.Prelude.{ℕ, ◌+◌, ◌-◌, ◌≤◌, ◌<◌, ◌≡◌, List, length, get_or}
use Rattle.tables.specs.declared.Place.{Place}
use Rattle.tables.specs.declared.Place.TheVariants.{Found, Missing}
use Rattle.tables.specs.declared.counts.Span.{Span}

-- a place with a number below x before it and none below x at it, or an end of the list
pub record Boundary (x : ℕ) (ks : List ℕ) (at : ℕ) : Type 0 where
  pub inside : at ≤ length ks
  pub before : 0 < at → get_or ks (at - 1) 0 < x
  pub behind : at < length ks → x ≤ get_or ks at 0

-- x stands at a place, or it does not stand at its boundary
abbrev pub Placed : ℕ → List ℕ → Place → Type 0
Placed x ks (Found at) = (at < length ks) × (get_or ks at 0 ≡ x)
Placed x ks (Missing at) = Boundary x ks at × (at < length ks → get_or ks at 0 ≡ x → ⊥)

-- the places of a key with the count there: one, or none and 0
abbrev pub span_of : List ℕ → Place → Span
span_of vs (Found at) = record { from = at; to = at + 1; count = get_or vs at 0 }
span_of vs (Missing at) = record { from = at; to = at; count = 0 }

pub record Spans (x : ℕ) (ks vs : List ℕ) (r : Span) : Type 0 where
  pub place : Place
  pub placed : Placed x ks place
  pub is : r ≡ span_of vs place
