-- Cases of the cursor's refusals: acks 29; resumption 10, 11, 12; the snapshot 6 to 12 and 20.
-- SPEC.md, "Cursor".
use Rattle.std.specs.Prelude.{ℕ, ◌≡◌, refl, true, false, [], ◌∷◌, ◌++◌, replicate}
use Rattle.std.proofs.Math.Bool.{xor}
use Rattle.types.specs.Limits.{MAX}
use Rattle.types.specs.Refusal.{refused, done, CursorTruncated, CursorBadLength, CursorUnsupportedVersion, CursorBadCrc}
use Rattle.types.specs.Refusal.{EmptyRange, NotSortedDisjointAndAboveCommitted, TooManyRuns, OutTooShort, Shed}
use Rattle.raw.specs.Bytes.{write}
use Rattle.crc.specs.Crc32c.{bits, unbits, polynomial, crc}
use Rattle.crc.specs.Seal.{is_sealed}
use Rattle.cursor.specs.Ranges.{range}
use Rattle.cursor.specs.Cursor.{Cursor, cursor, ackBounded, resume_with_ahead}
use Rattle.cursor.specs.Snapshot.{encode_cursor, decode_cursor}
use Rattle.cases.specs.States.{ranges_from}

-- ## acks
-- nothing committed; n ranges ahead, the first of offset 2, the next of offset 4
abbrev ahead : ℕ → Cursor
ahead n = cursor 0 (ranges_from n 2)

-- 29 at the run limit; with a range less the ack is recorded
pub shed-at_the_limit : (ackBounded (ahead 3) 20 3).outcome ≡ refused Shed
unfolding ackBounded
shed-at_the_limit = refl

pub recorded-below_the_limit : (ackBounded (ahead 2) 20 3).outcome ≡ done true
unfolding ackBounded
recorded-below_the_limit = refl

-- a run limit above 128 is 128: the 129th range is shed, the 128th recorded
pub shed-at_128 : (ackBounded (ahead 128) 1000 MAX).outcome ≡ refused Shed
unfolding ackBounded
shed-at_128 = refl

pub recorded-at_127 : (ackBounded (ahead 127) 1000 MAX).outcome ≡ done true
unfolding ackBounded
recorded-at_127 = refl

-- 29 is for a fragmenting ack alone: at the limit one at committed, one that touches a range and a duplicate are answered
pub committed_not_shed : (ackBounded (ahead 3) 0 3).outcome ≡ done true
unfolding ackBounded
committed_not_shed = refl

pub touching_not_shed : (ackBounded (ahead 3) 7 3).outcome ≡ done true
unfolding ackBounded
touching_not_shed = refl

pub duplicate-before-shed : (ackBounded (ahead 3) 6 3).outcome ≡ done false
unfolding ackBounded
duplicate-before-shed = refl

pub last-offset-before-shed : (ackBounded (ahead 3) MAX 3).outcome ≡ done false
unfolding ackBounded
last-offset-before-shed = refl

-- ## resumption
-- 10 where start is end, and before 11 for the same range
pub empty-range : resume_with_ahead 5 (range 5 5 ∷ []) ≡ refused (EmptyRange 5 5)
unfolding resume_with_ahead
empty-range = refl

-- 11 where the first range starts at committed, or another at the end before it; one further on it is accepted
pub range-at-committed : resume_with_ahead 5 (range 5 6 ∷ []) ≡ refused (NotSortedDisjointAndAboveCommitted 5 5)
unfolding resume_with_ahead
range-at-committed = refl

pub range-at_the_end-before : resume_with_ahead 5 (range 6 8 ∷ range 8 9 ∷ []) ≡ refused (NotSortedDisjointAndAboveCommitted 8 8)
unfolding resume_with_ahead
range-at_the_end-before = refl

pub ranges-accepted : resume_with_ahead 5 (range 6 8 ∷ range 9 10 ∷ []) ≡ done (cursor 5 (range 6 8 ∷ range 9 10 ∷ []))
unfolding resume_with_ahead
ranges-accepted = refl

-- 10 then 11 range by range: 11 for the first range comes before 10 for the second
pub range-by-range : resume_with_ahead 5 (range 5 6 ∷ range 9 9 ∷ []) ≡ refused (NotSortedDisjointAndAboveCommitted 5 5)
unfolding resume_with_ahead
range-by-range = refl

-- 12 for 129 ranges; 128 are accepted
pub too_many-runs : resume_with_ahead 0 (ranges_from 129 1) ≡ refused TooManyRuns
unfolding resume_with_ahead
too_many-runs = refl

pub as_many-runs_as_fit : resume_with_ahead 0 (ranges_from 128 1) ≡ done (cursor 0 (ranges_from 128 1))
unfolding resume_with_ahead
as_many-runs_as_fit = refl

-- 10 and 11 of the last range before 12
pub empty-range-before_too_many : resume_with_ahead 0 (ranges_from 128 1 ++ range 300 300 ∷ []) ≡ refused (EmptyRange 300 300)
unfolding resume_with_ahead
empty-range-before_too_many = refl

pub touching-range-before_too_many : resume_with_ahead 0 (ranges_from 128 1 ++ range 256 300 ∷ []) ≡ refused (NotSortedDisjointAndAboveCommitted 256 256)
unfolding resume_with_ahead
touching-range-before_too_many = refl

-- ## the snapshot
-- 6 under 13 bytes, and before 8
pub cursor-truncated : decode_cursor (replicate 12 2) ≡ refused CursorTruncated
unfolding decode_cursor
cursor-truncated = refl

pub cursor-of_13_bytes : decode_cursor (encode_cursor (cursor 5 [])) ≡ done (cursor 5 [])
unfolding decode_cursor encode_cursor is_sealed bits unbits polynomial crc xor
cursor-of_13_bytes = refl

-- 7 before 8
pub cursor-length-before-version : decode_cursor (replicate 28 2) ≡ refused (CursorBadLength 28)
unfolding decode_cursor
cursor-length-before-version = refl

-- 8 before 9
pub cursor-version-before-crc : decode_cursor (replicate 29 2) ≡ refused (CursorUnsupportedVersion 2)
unfolding decode_cursor
cursor-version-before-crc = refl

-- 9 before 10: the range is (0, 0)
pub cursor-crc-before-ranges : decode_cursor (1 ∷ replicate 28 0) ≡ refused CursorBadCrc
unfolding decode_cursor is_sealed bits unbits polynomial crc xor
cursor-crc-before-ranges = refl

-- 10 and 11 with a right check
pub cursor-empty-range : decode_cursor (encode_cursor (cursor 5 (range 5 5 ∷ []))) ≡ refused (EmptyRange 5 5)
unfolding decode_cursor encode_cursor is_sealed bits unbits polynomial crc xor
cursor-empty-range = refl

pub cursor-touching-range : decode_cursor (encode_cursor (cursor 5 (range 5 6 ∷ []))) ≡ refused (NotSortedDisjointAndAboveCommitted 5 5)
unfolding decode_cursor encode_cursor is_sealed bits unbits polynomial crc xor
cursor-touching-range = refl

-- 20 where a byte is missing behind the position; with it, the answer is the position behind the snapshot
pub cursor-without-room : (write 3 (encode_cursor (cursor 5 [])) (replicate 15 0)).outcome ≡ refused OutTooShort
unfolding encode_cursor
cursor-without-room = refl

pub cursor-fits : (write 3 (encode_cursor (cursor 5 [])) (replicate 16 0)).outcome ≡ done 16
unfolding encode_cursor
cursor-fits = refl
