-- Cases of an import's refusals, in their order: 1, 2, 3, 33, 34, 4; then 6 to 12 of the cursor's bytes; then 13 to 19 of the attempts'. Each
-- beside bytes that the next ones would refuse. proofs/Order.antt has the order of the three parts for every input.
-- SPEC.md, "Import".
use Rattle.std.specs.Prelude.{ℕ, ◌-◌, ◌≡◌, refl, false, List, [], ◌∷◌, replicate}
use Rattle.std.proofs.Math.Bool.{xor}
use Rattle.std.proofs.Math.Option.{Option, none, some}
use Rattle.types.specs.Limits.{MAX, MAX32}
use Rattle.types.specs.Keyed.{Entry, entry}
use Rattle.types.specs.Table.{checked}
use Rattle.types.specs.Refusal.{Result, refused, done, UnlimitedDeliverNotAllowed, TooManySteps, ZeroThreshold, BadArea, BadHours, NeverOpen}
use Rattle.types.specs.Refusal.{CursorTruncated, CursorBadLength, CursorUnsupportedVersion, CursorBadCrc, EmptyRange, NotSortedDisjointAndAboveCommitted, TooManyRuns}
use Rattle.types.specs.Refusal.{AttemptTruncated, AttemptUnsupportedVersion, AttemptBadLength, CountMismatch, AttemptBadCrc, NotSorted, TooManyPairs}
use Rattle.crc.specs.Crc32c.{bits, unbits, polynomial, crc}
use Rattle.crc.specs.Seal.{is_sealed}
use Rattle.cursor.specs.Cursor.{Cursor, cursor, resume_with_ahead}
use Rattle.cursor.specs.Ranges.{range}
use Rattle.cursor.specs.Snapshot.{encode_cursor, decode_cursor}
use Rattle.attempt.specs.Snapshot.{encode_attempts, decode_attempts, pairs_table}
use Rattle.delivery.specs.Policy.{policy}
use Rattle.hours.specs.Hours.{Week, week_of, WEEK, firstOpen, open_half}
use Rattle.consumer.specs.State.{Configuration, State, next_group_at, bad_area}
use Rattle.starts.specs.Restart.{resumed, from_snapshots}
use Rattle.starts.specs.Import.{import}
use Rattle.cases.specs.States.{ranges_from, counts_from, lease_config, rights}

-- a limit, without the opt-in; n backoffs; a flush threshold; hours
abbrev configuration : ℕ → ℕ → ℕ → Option Week → Configuration
configuration m n threshold hours =
    record { settings = record { policy = policy m false (replicate n 5) threshold; rights = rights; hours = hours }; lease = lease_config }

abbrev accepted : Configuration
accepted = configuration 2 0 1 none

-- never open, shifted
abbrev never : ℕ → Option Week
never shift = some (week_of (replicate 7 0) shift)

-- ## 1, 2, 3, 33, 34, 4: on no area, of no bytes at all
pub import-unlimited : import (configuration 0 17 0 (never WEEK)) 0 100 [] [] ≡ refused UnlimitedDeliverNotAllowed
unfolding import
import-unlimited = refl

pub import_too_many-steps : import (configuration 2 17 0 (never WEEK)) 0 100 [] [] ≡ refused TooManySteps
unfolding import
import_too_many-steps = refl

pub import-zero-threshold : import (configuration 2 16 0 (never WEEK)) 0 100 [] [] ≡ refused ZeroThreshold
unfolding import
import-zero-threshold = refl

pub import-bad-hours : import (configuration 2 16 1 (never WEEK)) 0 100 [] [] ≡ refused BadHours
unfolding import
import-bad-hours = refl

pub import-never_open : import (configuration 2 16 1 (never (WEEK - 1))) 0 100 [] [] ≡ refused NeverOpen
unfolding import firstOpen open_half
import-never_open = refl

pub import-bad-area : import accepted 9215 100 [] [] ≡ refused BadArea
unfolding import bad_area
import-bad-area = refl

-- ## 6 to 12 of the cursor's bytes, beside attempts of version 0
abbrev of_cursor : List ℕ → Result State
of_cursor bytes = import accepted 9216 100 bytes (replicate 9 0)

pub import-cursor-truncated : of_cursor (replicate 12 2) ≡ refused CursorTruncated
unfolding import bad_area decode_cursor
import-cursor-truncated = refl

pub import-cursor-length : of_cursor (replicate 28 2) ≡ refused (CursorBadLength 28)
unfolding import bad_area decode_cursor
import-cursor-length = refl

pub import-cursor-version : of_cursor (replicate 29 2) ≡ refused (CursorUnsupportedVersion 2)
unfolding import bad_area decode_cursor
import-cursor-version = refl

pub import-cursor-crc : of_cursor (1 ∷ replicate 28 0) ≡ refused CursorBadCrc
unfolding import bad_area decode_cursor is_sealed bits unbits polynomial crc xor
import-cursor-crc = refl

pub import-cursor-empty-range : of_cursor (encode_cursor (cursor 5 (range 7 7 ∷ range 6 8 ∷ []))) ≡ refused (EmptyRange 7 7)
unfolding import bad_area decode_cursor encode_cursor is_sealed bits unbits polynomial crc xor
import-cursor-empty-range = refl

pub import-cursor-order : of_cursor (encode_cursor (cursor 5 (range 5 6 ∷ []))) ≡ refused (NotSortedDisjointAndAboveCommitted 5 5)
unfolding import bad_area decode_cursor encode_cursor is_sealed bits unbits polynomial crc xor
import-cursor-order = refl

-- 12 for ranges as they were read, 129 of them and not for 128 (`cursor-after_its_frame` of proofs/Order.antt)
abbrev of_ranges : ℕ → Result State
of_ranges n = from_snapshots accepted 9216 (resume_with_ahead 0 (ranges_from n 1)) (decode_attempts (replicate 9 0)) 100 (next_group_at 1 0)

pub import_129_ranges : of_ranges 129 ≡ refused TooManyRuns
unfolding resume_with_ahead
import_129_ranges = refl

pub import_128_ranges : of_ranges 128 ≡ refused (AttemptUnsupportedVersion 0)
unfolding resume_with_ahead decode_attempts
import_128_ranges = refl

-- ## 13 to 19 of the attempts' bytes, beside a cursor with 0 to 4 and 8 settled
abbrev settled_there : Cursor
settled_there = cursor 5 (range 8 9 ∷ [])

abbrev of_attempts : List ℕ → Result State
of_attempts bytes = from_snapshots accepted 9216 (done settled_there) (decode_attempts bytes) 100 (next_group_at 1 0)

-- which is how the cursor's own bytes are read
pub import-of-both : import accepted 9216 100 (encode_cursor settled_there) [] ≡ of_attempts []
unfolding import bad_area decode_cursor encode_cursor is_sealed bits unbits polynomial crc xor
import-of-both = refl

pub import-attempts-truncated : of_attempts (replicate 8 3) ≡ refused AttemptTruncated
unfolding decode_attempts
import-attempts-truncated = refl

pub import-attempts-version : of_attempts (replicate 10 3) ≡ refused (AttemptUnsupportedVersion 3)
unfolding decode_attempts
import-attempts-version = refl

pub import-attempts-length : of_attempts (1 ∷ replicate 9 1) ≡ refused (AttemptBadLength 10)
unfolding decode_attempts
import-attempts-length = refl

pub import-attempts-count : of_attempts (1 ∷ 1 ∷ replicate 7 0) ≡ refused (CountMismatch 1 0)
unfolding decode_attempts
import-attempts-count = refl

pub import-attempts-crc : of_attempts (1 ∷ replicate 8 0) ≡ refused AttemptBadCrc
unfolding decode_attempts is_sealed bits unbits polynomial crc xor
import-attempts-crc = refl

pub import-attempts-order : of_attempts (encode_attempts 1 (entry 9 1 ∷ entry 6 2 ∷ [])) ≡ refused (NotSorted 6 9)
unfolding decode_attempts encode_attempts is_sealed bits unbits polynomial crc xor
import-attempts-order = refl

-- 19 for pairs as they were read, 129 of them (`attempts-after_their_frame`)
abbrev of_pairs : List (Entry ℕ) → Result State
of_pairs l = from_snapshots accepted 9216 (done settled_there) (checked (pairs_table l) (done l)) 100 (next_group_at 1 0)

pub import_129_pairs : of_pairs (counts_from 129 9) ≡ refused TooManyPairs
import_129_pairs = refl

-- ## imported
-- a count of a settled offset and a zero are left out; generations begin at 100, which is the ceiling too; either version
abbrev mixed : List (Entry ℕ)
mixed = entry 3 7 ∷ entry 6 2 ∷ entry 8 MAX32 ∷ entry 9 0 ∷ entry MAX 4 ∷ []

abbrev imported : State
imported = resumed accepted 9216 settled_there (entry 6 2 ∷ entry MAX 4 ∷ []) 100 (next_group_at 1 0)

pub import-version_1 : of_attempts (encode_attempts 1 mixed) ≡ done imported
unfolding decode_attempts encode_attempts is_sealed bits unbits polynomial crc xor
import-version_1 = refl

pub import-version_2 : of_attempts (encode_attempts 2 mixed) ≡ done imported
unfolding decode_attempts encode_attempts is_sealed bits unbits polynomial crc xor
import-version_2 = refl

pub import-whole : import accepted 9216 100 (encode_cursor settled_there) (encode_attempts 1 mixed) ≡ done imported
unfolding import bad_area decode_cursor encode_cursor decode_attempts encode_attempts is_sealed bits unbits polynomial crc xor
import-whole = refl

-- the greatest first generation
pub import-from_max : from_snapshots accepted 9216 (done settled_there) (done []) MAX (next_group_at 1 0) ≡ done (resumed accepted 9216 settled_there [] MAX (next_group_at 1 0))
import-from_max = refl
