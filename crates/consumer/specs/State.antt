-- The consumer's state, and the configuration that it is started with.
-- SPEC.md, "State".
use Rattle.std.specs.Prelude.{ℕ, ◌/◌, ◌%◌, Bool, cond, not, ◌||◌, List, eqb, ltb}
use Rattle.std.proofs.Math.Option.{Option, get_or}
use Rattle.cursor.specs.Cursor.{Cursor}
use Rattle.lease.specs.declared.LeaseConfig.{LeaseConfig}
use Rattle.lease.specs.State.{Table}
use Rattle.delivery.specs.Policy.{Policy}
use Rattle.journal.specs.Area.{bad_length}
use Rattle.hours.specs.Hours.{Week}

-- a count that may be missing
abbrev pub count_or0 : Option ℕ → ℕ
count_or0 n = get_or n 0

-- what a consumer keeps of its configuration, beside what its lease table keeps
pub record Settings : Type 0 where
  pub policy : Policy
  -- a byte for each worker (Rights.antt)
  pub rights : List ℕ
  -- nothing where it is open always
  pub hours : Option Week

-- the configuration: what a consumer is started with
pub record Configuration : Type 0 where
  pub settings : Settings
  pub lease : LeaseConfig

-- where the next checkpoint goes: its group number, and the block of its header
pub record NextGroup : Type 0 where
  pub number : ℕ
  pub block : ℕ

abbrev pub next_group_at : ℕ → ℕ → NextGroup
next_group_at number block = record { number = number; block = block }

-- the table has the leases with their times, the carried counts, the next generation and the redelivery counter; `size` is the
-- length of the area in bytes
pub record State : Type 0 where
  pub cursor : Cursor
  pub table : Table
  pub ceiling : ℕ
  pub next : NextGroup
  pub size : ℕ
  pub settings : Settings

abbrev pub state_of : Cursor → Table → ℕ → NextGroup → ℕ → Settings → State
state_of c t ceiling next size settings =
    record { cursor = c; table = t; ceiling = ceiling; next = next; size = size; settings = settings }

-- the state with another table, and with another cursor and another table
abbrev pub with_table : State → Table → State
with_table s t = state_of s.cursor t s.ceiling s.next s.size s.settings

abbrev pub with_both : State → Cursor → Table → State
with_both s c t = state_of c t s.ceiling s.next s.size s.settings

-- no consumer is started on an area of so many bytes: 4. It has to be two equal halves, of 9 blocks at least
unfoldable pub bad_area : ℕ → Bool
bad_area n = bad_length n || not (eqb (n / 512 % 2) 0) || ltb (n / 512) 18

-- the blocks of the area
abbrev pub blocks_of : State → ℕ
blocks_of s = s.size / 512

-- ## the two halves of an area of so many bytes
-- the blocks of a half, which are also the first block of the second one
abbrev pub half_blocks : ℕ → ℕ
half_blocks size = size / 512 / 2

-- the half in use, by the block where the next group would stand. It stands behind a group wherever the second half is in use, so
-- behind its first block; a first half that is just full shows its end
abbrev pub in_second : ℕ → ℕ → Bool
in_second size block = ltb (half_blocks size) block

abbrev pub half_in_use : ℕ → ℕ → ℕ
half_in_use size block = cond (in_second size block) 1 0

-- the block behind it, and the first block of the other half
abbrev pub half_end : ℕ → ℕ → ℕ
half_end size block = cond (in_second size block) (size / 512) (half_blocks size)

abbrev pub otherHalf : ℕ → ℕ → ℕ
otherHalf size block = cond (in_second size block) 0 (half_blocks size)
