-- An export: the snapshots of a consumer as the original reads them, and both in lent byte lists.
-- SPEC.md, "Export".
use Rattle.std.specs.Prelude.{ℕ, List, [], ◌∷◌, ◌++◌, ltb, length, drop}
use Rattle.types.specs.Refusal.{Result, refused, done, OutTooShort}
use Rattle.types.specs.Table.{Row, ◌⇒◌, checked}
use Rattle.cursor.specs.Snapshot.{encode_cursor}
use Rattle.attempt.specs.Snapshot.{encode_attempts}
use Rattle.lease.specs.Counts.{all_attempt_counts}
use Rattle.consumer.specs.State.{State}

-- two byte lists: the snapshots of a cursor and of attempt counts, or the memory that is lent for them
pub record Snapshots : Type 0 where
  pub cursor : List ℕ
  pub attempts : List ℕ

abbrev pub snapshots : List ℕ → List ℕ → Snapshots
snapshots cursor attempts = record { cursor = cursor; attempts = attempts }

-- those of a state: all counts are in version 1, rising by offset
abbrev pub exported : State → Snapshots
exported s = snapshots (encode_cursor s.cursor) (encode_attempts 1 (all_attempt_counts s.table))

-- 20 where one of them has too few places
abbrev pub export_table : Snapshots → ℕ → ℕ → List Row
export_table x cursorRoom attemptRoom =
    ltb cursorRoom (length x.cursor) ⇒ OutTooShort
    ∷ ltb attemptRoom (length x.attempts) ⇒ OutTooShort
    ∷ []

-- how long each is, then the bytes of both
abbrev pub export_values : Snapshots → List ℕ
export_values x = length x.cursor ∷ length x.attempts ∷ (x.cursor ++ x.attempts)

-- into lists of so many places
abbrev pub export_into : Snapshots → ℕ → ℕ → Result (List ℕ)
export_into x cursorRoom attemptRoom = checked (export_table x cursorRoom attemptRoom) (done (export_values x))

-- bytes from the first place of a lent list on, whose later places stay
abbrev pub in_front : List ℕ → List ℕ → List ℕ
in_front bytes out = bytes ++ drop (length bytes) out

-- the lent lists after an export that is answered so: a refusal leaves both as they were
abbrev pub snapshots_after : Result (List ℕ) → Snapshots → Snapshots → Snapshots
snapshots_after (refused r) x out = out
snapshots_after (done l) x out = snapshots (in_front x.cursor out.cursor) (in_front x.attempts out.attempts)
