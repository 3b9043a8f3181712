-- What a consumer is asked without being changed: the waiting list, and what a server wants to know.
-- SPEC.md, "Questions".
use Rattle.std.specs.Prelude.{ℕ, ◌-◌, Bool, true, false, List, [], ◌∷◌, ◌++◌, ltb, length}
use Rattle.types.specs.Refusal.{Result, refused, done, OutTooShort}
use Rattle.types.specs.Table.{◌⇒◌, checked}
use Rattle.types.specs.Keyed.{Entry, lookup}
use Rattle.cursor.specs.Cursor.{settled}
use Rattle.cursor.specs.Unsettled.{stretches, bounds, open_table, nearest_open}
use Rattle.cursor.specs.Plan.{plan_table, looks, plan_bytes}
use Rattle.lease.specs.Operations.{lease_of}
use Rattle.lease.specs.Lookup.{lease_values}
use Rattle.lease.specs.Rest.{expired, in_flight}
use Rattle.lease.specs.Counts.{all_attempt_counts}
use Rattle.consumer.specs.State.{State, half_end, count_or0}
use Rattle.consumer.specs.Calls.{at_ceiling, at_threshold, call_rows}
use Rattle.consumer.specs.Rights.{looking}
use Rattle.consumer.specs.Standing.{view_of, view_values}
use Rattle.consumer.specs.Waiting.{expired_deadlines, longest_first}
use Rattle.consumer.specs.Export.{Snapshots, exported, export_into}

-- the keys of entries, in their order
abbrev pub keys_of : List (Entry ℕ) → List ℕ
keys_of [] = []
keys_of (e ∷ l) = e.key ∷ keys_of l

-- the offsets that wait: those carried, and those whose lease's deadline has come
abbrev pub waiting_offsets : State → ℕ → List ℕ
waiting_offsets s now = keys_of s.table.carried ++ expired s.table now

-- the same in order: the carried ones by offset, as they are kept, and behind them the longest waiting first
abbrev pub waiting_at : State → ℕ → List ℕ
waiting_at s now = keys_of s.table.carried ++ keys_of (longest_first (expired_deadlines now s.table.leases))

-- the waiting list at a clock, into a list of so many places: 20
abbrev pub waiting : State → ℕ → ℕ → Result (List ℕ)
waiting s now room = checked (ltb room (length (waiting_at s now)) ⇒ OutTooShort ∷ []) (done (waiting_at s now))

-- the unsettled stretches between two numbers, start and end of each, where there is room for so many: 32, 20
abbrev pub open_between : State → ℕ → ℕ → ℕ → Result (List ℕ)
open_between s a b room = checked (open_table s.cursor a b room) (done (bounds (stretches s.cursor a b)))

-- a test as a number
abbrev pub bit : Bool → ℕ
bit true = 1
bit false = 0

-- how often an offset was handed out, as the next checkpoint stores it
abbrev pub count_of : State → ℕ → ℕ
count_of s o = count_or0 (lookup o (all_attempt_counts s.table))

pub data Question : Type 0 where
  -- at a clock, into a list of so many places
  Waiting : ℕ → ℕ → Question
  Committed : Question
  IsSettled : ℕ → Question
  LeaseOf : ℕ → Question
  CountOf : ℕ → Question
  InFlight : Question
  -- whether a checkpoint is due, for the ceiling and for the threshold
  IsDue : Question
  -- the blocks that are left in the half in use: a group that takes more goes to the other
  BlocksLeft : Question
  -- of an offset, at a clock
  ViewOf : ℕ → ℕ → Question
  -- the unsettled stretches between two numbers, into a list of so many places
  OpenBetween : ℕ → ℕ → ℕ → Question
  -- the nearest unsettled offset at or above one
  NearestOpen : ℕ → Question
  -- of offsets, into a byte list of so many places
  Plan : List ℕ → ℕ → Question
  -- the snapshots of the cursor and of all counts, into byte lists of so many places each
  Export : ℕ → ℕ → Question

-- what worker w is answered to each question, once it may ask
abbrev pub reply : State → ℕ → Question → Result (List ℕ)
reply s w (Waiting now room) = waiting s now room
reply s w Committed = done (s.cursor.committed ∷ [])
reply s w (IsSettled o) = done (bit (settled s.cursor o) ∷ [])
reply s w (LeaseOf o) = done (lease_values (lease_of s.table o))
reply s w (CountOf o) = done (count_of s o ∷ [])
reply s w InFlight = done (in_flight s.table ∷ [])
reply s w IsDue = done (bit (at_ceiling s) ∷ bit (at_threshold s) ∷ [])
reply s w BlocksLeft = done ((half_end s.size s.next.block - s.next.block) ∷ [])
reply s w (ViewOf o now) = done (view_values (view_of s w o now))
reply s w (OpenBetween a b room) = open_between s a b room
reply s w (NearestOpen o) = done (nearest_open s.cursor o ∷ [])
reply s w (Plan os room) = checked (plan_table os room) (done (looks s.cursor os ∷ plan_bytes s.cursor os))
reply s w (Export cursorRoom attemptRoom) = export_into (exported s) cursorRoom attemptRoom

-- a question of worker w: 38, 39 first
abbrev pub look : State → ℕ → Question → Result (List ℕ)
look s w q = checked (call_rows s w looking) (reply s w q)

-- the lent byte list after a plan: behind the number of looks stands the answer to each offset
abbrev pub bytes_after : Result (List ℕ) → List ℕ → List ℕ
bytes_after (refused r) out = out
bytes_after (done []) out = out
bytes_after (done (n ∷ bytes)) out = bytes

-- an export into two lent byte lists, and of worker w
abbrev pub export_to : Snapshots → Question
export_to out = Export (length out.cursor) (length out.attempts)

abbrev pub export : State → ℕ → Snapshots → Result (List ℕ)
export s w out = look s w (export_to out)
