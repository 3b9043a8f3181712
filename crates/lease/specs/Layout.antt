-- Where each number and each column of a lease table lies among its words, the table that they are, and what holds of them. The
-- places are those of layout.rt.
-- SPEC.md, "Leases".
use Rattle.std.specs.Prelude.{ℕ, ◌+◌, ◌≤◌, ◌≡◌, List, length, get_or}
use Rattle.types.specs.Limits.{MAX32, LEASES, CARRIED}
use Rattle.words.specs.Columns.{word, column}
use Rattle.lease.specs.State.{Table}
use Rattle.lease.specs.State as state
use Rattle.lease.specs.Parts.{gathered}
use Rattle.lease.specs.declared.LeaseConfig.{LeaseConfig}
use Rattle.lease.specs.declared.LeaseTable.{LeaseTable}

-- ## places
-- numbers
abbrev pub LEN : ℕ
LEN = 0

abbrev pub CARRIED-LEN : ℕ
CARRIED-LEN = 1

abbrev pub NEXT : ℕ
NEXT = 2

abbrev pub REDELIVERIES : ℕ
REDELIVERIES = 3

abbrev pub VISIBILITY : ℕ
VISIBILITY = 4

abbrev pub HARD-CAP : ℕ
HARD-CAP = 5

-- columns by place
abbrev pub OFFSETS : ℕ
OFFSETS = 6

abbrev pub SLOTS : ℕ
SLOTS = OFFSETS + LEASES

-- columns by slot
abbrev pub GENERATIONS : ℕ
GENERATIONS = SLOTS + LEASES

abbrev pub STARTS : ℕ
STARTS = GENERATIONS + LEASES

abbrev pub DEADLINES : ℕ
DEADLINES = STARTS + LEASES

abbrev pub DELIVERIES : ℕ
DELIVERIES = DEADLINES + LEASES

abbrev pub WORKERS : ℕ
WORKERS = DELIVERIES + LEASES

-- the carried counts, by place
abbrev pub CARRIED-OFFSETS : ℕ
CARRIED-OFFSETS = WORKERS + LEASES

abbrev pub CARRIED-COUNTS : ℕ
CARRIED-COUNTS = CARRIED-OFFSETS + CARRIED

-- all of them
abbrev pub WORDS : ℕ
WORDS = CARRIED-COUNTS + CARRIED

-- ## the table
abbrev pub config_in : List ℕ → LeaseConfig
config_in w = record { visibility_nanos = word VISIBILITY w; hard_cap_nanos = word HARD-CAP w }

abbrev pub table_in : List ℕ → LeaseTable
table_in w =
    gathered (config_in w) (word LEN w) (word CARRIED-LEN w) (word NEXT w) (word REDELIVERIES w)
    (column OFFSETS LEASES w) (column SLOTS LEASES w) (column GENERATIONS LEASES w) (column STARTS LEASES w) (column DEADLINES LEASES w)
    (column DELIVERIES LEASES w) (column WORKERS LEASES w) (column CARRIED-OFFSETS CARRIED w) (column CARRIED-COUNTS CARRIED w)

-- the leases and counts that words show
abbrev pub view : List ℕ → Table
view w = state.view (table_in w)

-- ## what contracts require of words, and say of those that a call leaves
-- numbers of 32 bits, each in a word
abbrev pub Narrow : List ℕ → Type 0
Narrow l = (i : ℕ) → get_or l i 0 ≤ MAX32

-- the numbers that a lease and the redelivery counter have as u32 are such numbers
pub record Fits (t : LeaseTable) : Type 0 where
  pub counts : Narrow t.deliveries
  pub workers : Narrow t.workers
  pub redeliveries : t.redeliveries_since_flush ≤ MAX32

pub record Sound (w : List ℕ) : Type 0 where
  pub long : length w ≡ WORDS
  pub table : state.Sound (table_in w)
  pub fits : Fits (table_in w)
