-- Attempt counts carried over: one more of them, and how a struct of two columns holds at most 128 while pairs are taken in one by one.
-- SPEC.md, "Leases".
use Rattle.std.specs.Prelude.{ℕ, ◌≤◌, ◌≡◌, cond, List, ltb, eqb, length, take}
use Rattle.std.proofs.Math.Option.{Option, none, some}
use Rattle.types.specs.Limits.{MAX, MAX32, CARRIED}
use Rattle.types.specs.Keyed.{Entry, entries, put, Rising, All}
use Rattle.types.specs.Lists.{entry_of}
use Rattle.types.specs.declared.Pair.{Pair}
use Rattle.tables.specs.declared.counts.Carried.{Carried}

-- an offset and an attempt count of their types, delivered once at least
pub record Counted (offset attempts : ℕ) : Type 0 where
  pub offset-fits : offset ≤ MAX
  pub once : 1 ≤ attempts
  pub count_fits : attempts ≤ MAX32

-- the carried counts with one pair more: a zero says nothing, and of two counts for an offset the last stays
abbrev pub carry : ℕ → ℕ → List (Entry ℕ) → List (Entry ℕ)
carry o n c = cond (eqb n 0) c (put o n c)

-- the counts in the columns, or none where there would be more than 128
abbrev pub held_in : Carried → List (Entry ℕ)
held_in c = entries (take c.len c.offsets) (take c.len c.counts)

abbrev pub carried_in : Carried → Option (List (Entry ℕ))
carried_in c = cond c.full none (some (held_in c))

abbrev pub within : List (Entry ℕ) → Option (List (Entry ℕ))
within l = cond (ltb CARRIED (length l)) none (some l)

-- one pair more
abbrev pub carry_on : Entry ℕ → Option (List (Entry ℕ)) → Option (List (Entry ℕ))
carry_on p none = none
carry_on p (some l) = within (carry p.key p.value l)

-- what holds of the struct
pub record Tidy (c : Carried) : Type 0 where
  pub few : c.len ≤ CARRIED
  pub rising : Rising 0 (held_in c)
  pub counted : All Counted (held_in c)

pub record CarriesPair (p : Pair) (before after : Carried) : Type 0 where
  pub is : carried_in after ≡ carry_on (entry_of p) (carried_in before)
  pub tidy : Tidy after
