-- The limits, and the sums that stop at the largest number.
-- SPEC.md, "Numbers".
use Rattle.std.specs.Prelude.{ℕ, ◌+◌, min}

-- the largest u64, MAX, and the largest u32
abbrev pub MAX : ℕ
MAX = 18446744073709551615

abbrev pub MAX32 : ℕ
MAX32 = 4294967295

-- leases in a table, carried counts in a table, ranges ahead of a cursor, pairs in a snapshot, steps of a backoff list
abbrev pub LEASES : ℕ
LEASES = 64

abbrev pub CARRIED : ℕ
CARRIED = 128

abbrev pub RANGES : ℕ
RANGES = 128

abbrev pub PAIRS : ℕ
PAIRS = 128

abbrev pub STEPS : ℕ
STEPS = 16

-- workers, numbered from 0
abbrev pub WORKERS : ℕ
WORKERS = 8

-- sums that stay at the largest number of their type
abbrev pub sat64 : ℕ → ℕ → ℕ
sat64 a b = min (a + b) MAX

abbrev pub sat32 : ℕ → ℕ → ℕ
sat32 a b = min (a + b) MAX32
