-- The counts of a checkpoint in two columns each: those of the leases and the carried ones, of which no offset has both.
-- SPEC.md, "Checkpoint".
use Rattle.std.specs.Prelude.{ℕ, ◌+◌, ◌<◌, ◌≤◌, ◌≡◌, List, ◌∷◌, length, take, drop}
use Rattle.std.proofs.Math.Option.{some}
use Rattle.types.specs.Limits.{LEASES, CARRIED}
use Rattle.types.specs.Keyed.{Entry, entry, entries, lookup}
use Rattle.tables.specs.Merge.{merge}
use Rattle.tables.specs.Slots.{Permutes, through}
use Rattle.checkpoint.specs.declared.counts.NextCount.{NextCount}
use Rattle.checkpoint.specs.declared.counts.Columns.{Columns}

-- the first n places of two columns
abbrev pub counted : ℕ → List ℕ → List ℕ → List (Entry ℕ)
counted n ks vs = entries (take n ks) (take n vs)

-- no key stands in both lists
abbrev pub Apart : List (Entry ℕ) → List (Entry ℕ) → Type 0
Apart k l = (o m n : ℕ) → lookup o k ≡ some m → lookup o l ≡ some n → ⊥

-- what is lent: n leases' counts and m carried ones
pub record Listed (n m : ℕ) (ks vs cks cvs : List ℕ) : Type 0 where
  pub few : n ≤ LEASES
  pub carried-few : m ≤ CARRIED
  pub offsets : length ks ≡ LEASES
  pub counts : length vs ≡ LEASES
  pub carried-offsets : length cks ≡ CARRIED
  pub carried-counts : length cvs ≡ CARRIED
  pub apart : Apart (counted n ks vs) (counted m cks cvs)

-- the slots through which the leases' counts are read
pub record Slotted (slots : List ℕ) : Type 0 where
  pub all : length slots ≡ LEASES
  pub each : Permutes LEASES slots

-- a count, and how many it takes of each list
abbrev pub next_count : (offset attempt left right : ℕ) → NextCount
next_count o n i j = record { offset = o; attempt = n; left = i; right = j }

-- it is the first of the two lists merged, and of one of them
pub record NextIs (k l : List (Entry ℕ)) (r : NextCount) : Type 0 where
  pub is : merge k l ≡ entry r.offset r.attempt ∷ merge (drop r.left k) (drop r.right l)
  pub one : r.left + r.right ≡ 1
  pub left : r.left ≤ length k
  pub right : r.right ≤ length l

-- ## columns of a type of numbers
module _ {T : Type 0} (numbers : List T → List ℕ) where
  -- the leases' counts, by place
  abbrev pub counts_of : Columns T → List ℕ
  counts_of c = through 0 (numbers c.slots.now) (numbers c.deliveries.now)

  abbrev pub leased : Columns T → List (Entry ℕ)
  leased c = counted c.len c.offsets.now (counts_of c)

  abbrev pub carried : Columns T → List (Entry ℕ)
  carried c = counted c.carried_len c.carried_offsets.now (numbers c.carried_counts.now)

-- columns whose numbers are of 32 bits, as their type says it of each; of the carried counts those in use
pub record Narrow {T : Type 0} (narrow : List T → ℕ → Type 0) (c : Columns T) : Type 0 where
  pub slots : (i : ℕ) → narrow c.slots.now i
  pub leased : (i : ℕ) → narrow c.deliveries.now i
  pub carried : (i : ℕ) → i < c.carried_len → narrow c.carried_counts.now i

-- what is lent
pub record Storable {T : Type 0} (numbers : List T → List ℕ) (short : List T → ℕ → Type 0) (c : Columns T) : Type 0 where
  pub listed : Listed c.len c.carried_len c.offsets.now (counts_of numbers c) c.carried_offsets.now (numbers c.carried_counts.now)
  pub slotted : Slotted (numbers c.slots.now)
  pub counts : length (numbers c.deliveries.now) ≡ LEASES
  pub narrow : Narrow short c
