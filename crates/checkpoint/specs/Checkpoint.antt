-- A checkpoint, block write by block write: begin takes the state into a writing record, each
-- step makes the next block write, and the last one, the header's, gives the state back.
-- SPEC.md, "Checkpoint".
use Rattle.std.specs.Prelude.{ℕ, suc, ◌+◌, ◌-◌, Bool, cond, not, List, [], ◌∷◌, ◌++◌, ltb, leb, eqb, length}
use Rattle.types.specs.Limits.{MAX32, sat64}
use Rattle.types.specs.Refusal.{Result, done, BadArea, JournalFull}
use Rattle.types.specs.Table.{Row, ◌⇒◌, Answer, answer, checked, guarded}
use Rattle.cursor.specs.Snapshot.{encode_cursor}
use Rattle.attempt.specs.Snapshot.{encode_attempts2}
use Rattle.lease.specs.Counts.{all_attempt_counts}
use Rattle.lease.specs.Rest.{attempts_flushed}
use Rattle.journal.specs.Area.{write_at}
use Rattle.journal.specs.Blocks.{bodies_for, chunk_of, header_block, body_block, zero_block}
use Rattle.consumer.specs.State.{State, state_of, next_group_at, half_blocks, half_end, otherHalf}
use Rattle.consumer.specs.Rights.{checkpointing}
use Rattle.consumer.specs.Calls.{call_rows}

-- ## what is written
-- the cursor's snapshot and that of all attempt counts, in version 2, and both as the payload
abbrev pub cursor_bytes : State → List ℕ
cursor_bytes s = encode_cursor s.cursor

abbrev pub attempt_bytes : State → List ℕ
attempt_bytes s = encode_attempts2 (all_attempt_counts s.table)

abbrev pub payload_of : State → List ℕ
payload_of s = cursor_bytes s ++ attempt_bytes s

-- the bodies that the payload takes
abbrev pub bodies : State → ℕ
bodies s = bodies_for (length (payload_of s))

-- ## where it is written
-- a group of n bodies doesn't fit in the half in use, on an area of so many bytes with this next block: it goes to the other one
abbrev pub switches_at : (size block n : ℕ) → Bool
switches_at size block n = ltb (half_end size block) (block + suc n)

-- the block of its header, and the blocks that are zeroed before it: the whole of the other half, or none
unfoldable pub header_place : (size block n : ℕ) → ℕ
header_place size block n = cond (switches_at size block n) (otherHalf size block) block

unfoldable pub zeroed_for : (size block n : ℕ) → ℕ
zeroed_for size block n = cond (switches_at size block n) (half_blocks size) 0

-- the same of a state's next group
abbrev pub switches : State → Bool
switches s = switches_at s.size s.next.block (bodies s)

abbrev pub group_block : State → ℕ
group_block s = header_place s.size s.next.block (bodies s)

abbrev pub zeros : State → ℕ
zeros s = zeroed_for s.size s.next.block (bodies s)

-- the block writes that a checkpoint makes: the zeroed blocks, its bodies and its header
abbrev pub writes : State → ℕ
writes s = zeros s + suc (bodies s)

-- ## what is written there
-- the next generation and 4,096, at most MAX
abbrev pub new_ceiling : State → ℕ
new_ceiling s = sat64 s.table.next_generation 4096

-- body j, counted from 1, and the header
abbrev pub body_of : State → ℕ → List ℕ
body_of s j = body_block s.next.number j (chunk_of j (payload_of s))

abbrev pub header_of : State → List ℕ
header_of s = header_block s.next.number (new_ceiling s) (length (cursor_bytes s)) (length (attempt_bytes s))

-- the state once the header is written: the ceiling, the counter and the next group change only now
abbrev pub flushed : State → State
flushed s =
    state_of s.cursor (attempts_flushed s.table) (new_ceiling s)
    (next_group_at (s.next.number + 1) (group_block s + suc (bodies s))) s.size s.settings

-- ## begin
-- the record: the state, and how many blocks are written
pub record Writing : Type 0 where
  pub state : State
  pub written : ℕ

abbrev pub writing : State → ℕ → Writing
writing s n = record { state = s; written = n }

-- 31: the group would have a number that no header can hold
abbrev pub begin_rows : State → List Row
begin_rows s = ltb MAX32 s.next.number ⇒ JournalFull ∷ []

abbrev pub begin_table : State → ℕ → List Row
begin_table s w = call_rows s w checkpointing ++ begin_rows s

-- worker w begins: nothing is written yet; a refusal leaves the caller the state
unfoldable pub begin : State → ℕ → Result Writing
begin s w = checked (begin_table s w) (done (writing s 0))

-- ## step
-- a block is zeroed next; all is written but the header
abbrev pub is_zeroing : Writing → Bool
is_zeroing w = ltb w.written (zeros w.state)

abbrev pub is_last : Writing → Bool
is_last w = leb (zeros w.state + bodies w.state) w.written

-- a sync is due after the next block: at most the header is left to write then. So zeros and bodies are durable before the header's step,
-- and the header before any other call
abbrev pub sync_due : Writing → Bool
sync_due w = leb (zeros w.state + bodies w.state) (suc w.written)

-- the body that is next, from 1
abbrev pub next_body : Writing → ℕ
next_body w = suc (w.written - zeros w.state)

-- where the next block goes, and what it is: zeros from the first block of the other half on, bodies 1 to n behind the header's
-- place, then the header
abbrev pub next_place : Writing → ℕ
next_place w =
    cond (is_zeroing w) (group_block w.state + w.written)
    (cond (is_last w) (group_block w.state) (group_block w.state + next_body w))

abbrev pub next_block : Writing → List ℕ
next_block w = cond (is_zeroing w) zero_block (cond (is_last w) (header_of w.state) (body_of w.state (next_body w)))

-- what a step leaves: the record, or the state that the last one gives back
pub data Left : Type 0 where
  going : Writing → Left
  finished : State → Left

abbrev pub left_by : Writing → Left
left_by w = cond (is_last w) (finished (flushed w.state)) (going (writing w.state (suc w.written)))

-- a step answers its block and whether it was the last one; it leaves the record or the state, and the lent area
pub record BlockWritten : Type 0 where
  pub block : ℕ
  pub last : Bool

pub record Lent : Type 0 where
  pub left : Left
  pub area : List ℕ

abbrev pub lent : Left → List ℕ → Lent
lent l a = record { left = l; area = a }

-- 4: an area of another length than the one that the consumer was started on
abbrev pub step_table : Writing → List ℕ → List Row
step_table w a = not (eqb (length a) w.state.size) ⇒ BadArea ∷ []

-- the next block write, and no other
unfoldable pub step : Writing → List ℕ → Answer BlockWritten Lent
step w a =
    guarded (step_table w a) (lent (going w) a)
    (answer (done (record { block = next_place w; last = is_last w })) (lent (left_by w) (write_at a (next_place w) (next_block w))))
