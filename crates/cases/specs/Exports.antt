-- Cases of an export. Offsets 0 to 4 and 8 are settled, offset 5 is held and was handed out once, offset 6 carries a count of 2; worker 0 may
-- look, worker 1 may all but that.
-- SPEC.md, "Export".
use Rattle.std.specs.Prelude.{ℕ, ◌≡◌, refl, List, [], ◌∷◌, ◌++◌, replicate}
use Rattle.std.proofs.Math.Bool.{xor}
use Rattle.types.specs.Refusal.{Result, refused, done, OutTooShort, UnknownWorker, NotPermitted}
use Rattle.types.specs.Keyed.{entry}
use Rattle.crc.specs.Crc32c.{bits, unbits, polynomial, crc}
use Rattle.cursor.specs.Snapshot.{encode_cursor}
use Rattle.attempt.specs.Snapshot.{encode_attempts}
use Rattle.lease.specs.Counts.{all_attempt_counts}
use Rattle.consumer.specs.State.{State}
use Rattle.consumer.specs.Export.{Snapshots, snapshots, exported, snapshots_after}
use Rattle.consumer.specs.Questions.{Export, look}
use Rattle.cases.specs.States.{leases_from, table_of}
use Rattle.cases.specs.Consumer.{consumer_of, five}

abbrev shop : State
shop = consumer_of (64 ∷ 191 ∷ []) five (table_of (leases_from 1 5) (entry 6 2 ∷ []) 10 0) 4096

-- worker w's export into lists of so many places
abbrev exporting : ℕ → ℕ → ℕ → Result (List ℕ)
exporting w cursorRoom attemptRoom = look shop w (Export cursorRoom attemptRoom)

-- ## the bytes
-- version 1, committed 5, the range [8, 9), the check
abbrev cursor_bytes : List ℕ
cursor_bytes = 1 ∷ 5 ∷ replicate 7 0 ++ 8 ∷ replicate 7 0 ++ 9 ∷ replicate 7 0 ++ 147 ∷ 7 ∷ 207 ∷ 233 ∷ []

-- version 1, two pairs, (5, 1), (6, 2), the check
abbrev attempt_bytes : List ℕ
attempt_bytes =
    1 ∷ 2 ∷ replicate 3 0 ++ 5 ∷ replicate 7 0 ++ 1 ∷ replicate 3 0 ++ 6 ∷ replicate 7 0 ++ 2 ∷ replicate 3 0 ++ 15 ∷ 138 ∷ 5 ∷ 79 ∷ []

pub export-of-both : exported shop ≡ snapshots cursor_bytes attempt_bytes
unfolding encode_cursor encode_attempts all_attempt_counts bits unbits polynomial crc xor
export-of-both = refl

-- ## refused: 38, 39, 20
pub export-by-worker_8 : exporting 8 0 0 ≡ refused UnknownWorker
export-by-worker_8 = refl

pub export-without-a-right : exporting 1 0 0 ≡ refused NotPermitted
export-without-a-right = refl

-- a byte too few for the one, and for the other
pub export-without-room_for_the_cursor : exporting 0 28 33 ≡ refused OutTooShort
unfolding encode_cursor
export-without-room_for_the_cursor = refl

pub export-without-room_for_the_counts : exporting 0 29 32 ≡ refused OutTooShort
unfolding encode_cursor encode_attempts all_attempt_counts
export-without-room_for_the_counts = refl

-- just enough for both: their lengths, and the bytes
pub export_in_numbers : exporting 0 29 33 ≡ done (29 ∷ 33 ∷ (cursor_bytes ++ attempt_bytes))
unfolding encode_cursor encode_attempts all_attempt_counts bits unbits polynomial crc xor
export_in_numbers = refl

-- ## the lent byte lists
abbrev lent : ℕ → ℕ → Snapshots
lent n k = snapshots (replicate n 7) (replicate k 7)

pub export-into-bytes : snapshots_after (exporting 0 30 34) (exported shop) (lent 30 34) ≡ snapshots (cursor_bytes ++ 7 ∷ []) (attempt_bytes ++ 7 ∷ [])
unfolding encode_cursor encode_attempts all_attempt_counts bits unbits polynomial crc xor
export-into-bytes = refl

pub export-refused-keeps-bytes : snapshots_after (exporting 0 29 32) (exported shop) (lent 29 32) ≡ lent 29 32
unfolding encode_cursor encode_attempts all_attempt_counts
export-refused-keeps-bytes = refl
