-- How a consumer starts, fresh or from a journal: the tests of configuration and area, the walk, the test of what
-- stands behind it, and the last group read. A restart reads the configuration and the area and writes nothing.
-- SPEC.md, "Restart".
use Rattle.std.specs.Prelude.{ℕ, ◌+◌, Bool, cond, not, ◌&&◌, ◌||◌, List, [], ◌∷◌, ◌++◌, eqb, ltb, leb, length, take, drop}
use Rattle.std.proofs.Math.Option.{Option, none, some}
use Rattle.types.specs.Refusal.{Result, refused, done, ZeroThreshold, BadArea, Damaged}
use Rattle.types.specs.Table.{Row, ◌⇒◌, checked}
use Rattle.types.specs.Keyed.{Entry}
use Rattle.cursor.specs.Cursor.{Cursor, settled, resume}
use Rattle.cursor.specs.Snapshot.{decode_cursor}
use Rattle.attempt.specs.Snapshot.{decode_attempts}
use Rattle.delivery.specs.Policy.{policy_table}
use Rattle.hours.specs.Hours.{hours_rows}
use Rattle.lease.specs.State.{starting_at, with_carried}
use Rattle.journal.specs.Area.{block_at}
use Rattle.journal.specs.Blocks.{group_of, cursor_length, attempt_length, ceiling_of}
use Rattle.journal.specs.Sound.{sound_but_fit, sound_but_number}
use Rattle.journal.specs.Walks.{Stop, walk, header_behind, payload}
use Rattle.consumer.specs.State.{Settings, Configuration, State, state_of, NextGroup, next_group_at, bad_area, half_blocks}

-- 1 to 3, then 33 and 34
abbrev pub settings_table : Settings → List Row
settings_table s =
    policy_table s.policy.maxDeliver s.policy.allowUnlimited s.policy.backoff
    ++ (eqb s.policy.flush_redeliveries 0 ⇒ ZeroThreshold ∷ hours_rows s.hours)

-- these, then 4
abbrev pub start_table : Configuration → ℕ → List Row
start_table c n = settings_table c.settings ++ (bad_area n ⇒ BadArea ∷ [])

-- a state without leases, whose generations begin at the ceiling, with the counter at 0
abbrev pub resumed : Configuration → ℕ → Cursor → List (Entry ℕ) → ℕ → NextGroup → State
resumed c size cursor counts ceiling next =
    state_of cursor (with_carried (starting_at c.lease ceiling) counts) ceiling next size c.settings

-- nothing is settled, nothing carried, and the first group goes to block 0
abbrev pub fresh : Configuration → ℕ → State
fresh c size = resumed c size (resume 0) [] 0 (next_group_at 1 0)

-- a fresh consumer for an area of so many zeroed bytes
unfoldable pub start : Configuration → ℕ → Result State
start c size = checked (start_table c size) (done (fresh c size))

-- ## restart
-- a zero, or the count of a settled offset
abbrev pub is_dropped : Cursor → Entry ℕ → Bool
is_dropped c e = eqb e.value 0 || settled c e.key

-- the nonzero counts of offsets that are not settled
abbrev pub unsettled_counts : Cursor → List (Entry ℕ) → List (Entry ℕ)
unsettled_counts c [] = []
unsettled_counts c (e ∷ l) = cond (is_dropped c e) (unsettled_counts c l) (e ∷ unsettled_counts c l)

-- from both snapshots as they were read, the cursor's first
abbrev pub from_snapshots : Configuration → ℕ → Result Cursor → Result (List (Entry ℕ)) → ℕ → NextGroup → Result State
from_snapshots c size (refused r) counts ceiling next = refused r
from_snapshots c size (done cursor) (refused r) ceiling next = refused r
from_snapshots c size (done cursor) (done counts) ceiling next =
    done (resumed c size cursor (unsettled_counts cursor counts) ceiling next)

-- the group whose header stands at block i: 6 to 19
abbrev pub read_group : Configuration → List ℕ → ℕ → NextGroup → Result State
read_group c a i next =
    from_snapshots c (length a)
    (decode_cursor (take (cursor_length (block_at a i)) (payload a i)))
    (decode_attempts (take (attempt_length (block_at a i)) (drop (cursor_length (block_at a i)) (payload a i))))
    (ceiling_of (block_at a i)) next

-- the first block of a half is a header sound in all but the expected number, and the number that it has
abbrev pub opens : List ℕ → ℕ → Bool
opens a i = sound_but_number (i + half_blocks (length a)) i (block_at a i)

abbrev pub first_number : List ℕ → ℕ → ℕ
first_number a i = group_of (block_at a i)

-- the second half is read: the first one is no rival, or its number is smaller
abbrev pub second_wins : List ℕ → Bool
second_wins a =
    opens a (half_blocks (length a))
    && not (opens a 0 && leb (first_number a (half_blocks (length a))) (first_number a 0))

-- where the walk begins, and the group number that is expected there: at the half that is read, the first one if neither opens
unfoldable pub origin : List ℕ → NextGroup
origin a =
    cond (second_wins a) (next_group_at (first_number a (half_blocks (length a))) (half_blocks (length a)))
    (next_group_at (cond (opens a 0) (first_number a 0) 1) 0)

-- the block that no group may pass, the end of that half, and the walk up to there
abbrev pub limit : List ℕ → ℕ
limit a = (origin a).block + half_blocks (length a)

abbrev pub walk_of : List ℕ → Result Stop
walk_of a = walk a (limit a) (origin a).number (origin a).block

-- a block of the half in use is the header of group k, sound in all but its fit
abbrev pub unfit_at : List ℕ → ℕ → ℕ → Bool
unfit_at a k i = ltb i (limit a) && sound_but_fit k (block_at a i)

-- 5, with the block where the walk ended: the header there doesn't fit its half, or behind it, in that half, is a block of kind 1
-- with a right check
abbrev pub end_table : List ℕ → Stop → List Row
end_table a end =
    unfit_at a end.number end.block ⇒ Damaged end.block
    ∷ header_behind a (limit a) end.block ⇒ Damaged end.block
    ∷ []

-- what the last group says, with where the next one goes, or a fresh consumer where there is none
abbrev pub last_group : Configuration → List ℕ → Option ℕ → NextGroup → Result State
last_group c a none next = done (fresh c (length a))
last_group c a (some i) next = read_group c a i next

-- from where the walk ended: 5 of an unsound body on it, then 5 of what stands behind it, then the last group
unfoldable pub from_walk : Configuration → List ℕ → Result Stop → Result State
from_walk c a (refused r) = refused r
from_walk c a (done stop) =
    checked (end_table a stop) (last_group c a stop.last (next_group_at stop.number stop.block))

unfoldable pub restart : Configuration → List ℕ → Result State
restart c a = checked (start_table c (length a)) (from_walk c a (walk_of a))
