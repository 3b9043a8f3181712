-- Cases of the attempt snapshot's refusals: decoding 13 to 20, encoding 19 and 20.
-- SPEC.md, "Attempt snapshot".
use Rattle.std.specs.Prelude.{ℕ, ◌≡◌, refl, List, [], ◌∷◌, ◌++◌, replicate}
use Rattle.std.proofs.Math.Bool.{xor}
use Rattle.types.specs.Refusal.{Result, refused, done, AttemptTruncated, AttemptUnsupportedVersion, AttemptBadLength, CountMismatch}
use Rattle.types.specs.Refusal.{AttemptBadCrc, NotSorted, TooManyPairs, OutTooShort}
use Rattle.types.specs.Table.{checked}
use Rattle.types.specs.Keyed.{Entry, entry}
use Rattle.types.specs.Lists.{pair}
use Rattle.crc.specs.Crc32c.{bits, unbits, polynomial, crc}
use Rattle.crc.specs.Seal.{is_sealed}
use Rattle.attempt.specs.Snapshot.{body_bytes, encode_attempts, encode_attempts1, encode_attempts2, encode_into, encode_into2, decode_attempts, old_reader, decode_into, fill, pairs_table}
use Rattle.attempt.specs.Codec.{encode_first}
use Rattle.cases.specs.States.{counts_from}

-- ## decoding
-- 13 under 9 bytes, and before 14
pub attempts-truncated : decode_attempts (replicate 8 3) ≡ refused AttemptTruncated
unfolding decode_attempts
attempts-truncated = refl

pub attempts-of_9_bytes : decode_attempts (encode_attempts1 []) ≡ done []
unfolding decode_attempts encode_attempts is_sealed bits unbits polynomial crc xor
attempts-of_9_bytes = refl

-- 14 before 15
pub attempts-version-before-length : decode_attempts (replicate 10 3) ≡ refused (AttemptUnsupportedVersion 3)
unfolding decode_attempts
attempts-version-before-length = refl

-- 14 for the versions around 1 and 2; those two meet 15
pub attempts-version_0 : decode_attempts (replicate 10 0) ≡ refused (AttemptUnsupportedVersion 0)
unfolding decode_attempts
attempts-version_0 = refl

pub attempts-version_1 : decode_attempts (replicate 10 1) ≡ refused (AttemptBadLength 10)
unfolding decode_attempts
attempts-version_1 = refl

pub attempts-version_2 : decode_attempts (replicate 10 2) ≡ refused (AttemptBadLength 10)
unfolding decode_attempts
attempts-version_2 = refl

-- a reader of the old kind has 14 there
pub old_reader_version_2 : old_reader (replicate 10 2) ≡ refused (AttemptUnsupportedVersion 2)
unfolding old_reader
old_reader_version_2 = refl

-- 15 before 16: there is room for no pair, and 257 are declared
pub attempts-length-before-count : decode_attempts (1 ∷ 1 ∷ 1 ∷ replicate 7 0) ≡ refused (AttemptBadLength 10)
unfolding decode_attempts
attempts-length-before-count = refl

-- 16 before 17
pub attempts-count-before-crc : decode_attempts (1 ∷ 1 ∷ 1 ∷ replicate 6 0) ≡ refused (CountMismatch 257 0)
unfolding decode_attempts
attempts-count-before-crc = refl

-- 17 before 18: both pairs are of offset 0
pub attempts-crc-before-order : decode_attempts (1 ∷ 2 ∷ replicate 31 0) ≡ refused AttemptBadCrc
unfolding decode_attempts is_sealed bits unbits polynomial crc xor
attempts-crc-before-order = refl

-- 18 where an offset is that of the pair before; one further on it is accepted
pub attempts-equal-offsets : decode_attempts (encode_attempts1 (entry 7 1 ∷ entry 7 2 ∷ [])) ≡ refused (NotSorted 7 7)
unfolding decode_attempts encode_attempts is_sealed bits unbits polynomial crc xor
attempts-equal-offsets = refl

pub attempts-rising : decode_attempts (encode_attempts1 (entry 0 1 ∷ entry 1 2 ∷ [])) ≡ done (entry 0 1 ∷ entry 1 2 ∷ [])
unfolding decode_attempts encode_attempts is_sealed bits unbits polynomial crc xor
attempts-rising = refl

-- the same in version 2
pub attempts-equal-offsets_2 : decode_attempts (encode_attempts2 (entry 7 1 ∷ entry 7 2 ∷ [])) ≡ refused (NotSorted 7 7)
unfolding decode_attempts encode_attempts is_sealed bits unbits polynomial crc xor
attempts-equal-offsets_2 = refl

pub attempts-rising_2 : decode_attempts (encode_attempts2 (entry 0 1 ∷ entry 1 2 ∷ [])) ≡ done (entry 0 1 ∷ entry 1 2 ∷ [])
unfolding decode_attempts encode_attempts is_sealed bits unbits polynomial crc xor
attempts-rising_2 = refl

-- the two versions of the same pairs, to the byte: all but the check
pub bytes-of-version_1 : body_bytes 1 (entry 7 1 ∷ entry 9 2 ∷ [])
    ≡ 1 ∷ 2 ∷ 0 ∷ 0 ∷ 0 ∷ 7 ∷ 0 ∷ 0 ∷ 0 ∷ 0 ∷ 0 ∷ 0 ∷ 0 ∷ 1 ∷ 0 ∷ 0 ∷ 0 ∷ 9 ∷ 0 ∷ 0 ∷ 0 ∷ 0 ∷ 0 ∷ 0 ∷ 0 ∷ 2 ∷ 0 ∷ 0 ∷ 0 ∷ []
bytes-of-version_1 = refl

pub bytes-of-version_2 : body_bytes 2 (entry 7 1 ∷ entry 9 2 ∷ [])
    ≡ 2 ∷ 2 ∷ 0 ∷ 0 ∷ 0 ∷ 7 ∷ 0 ∷ 0 ∷ 0 ∷ 0 ∷ 0 ∷ 0 ∷ 0 ∷ 9 ∷ 0 ∷ 0 ∷ 0 ∷ 0 ∷ 0 ∷ 0 ∷ 0 ∷ 1 ∷ 0 ∷ 0 ∷ 0 ∷ 2 ∷ 0 ∷ 0 ∷ 0 ∷ []
bytes-of-version_2 = refl

-- 19 for 129 pairs, after 18 of the last one; not for 128
abbrev tested : List (Entry ℕ) → Result (List (Entry ℕ))
tested l = checked (pairs_table l) (done l)

pub too_many-pairs : tested (counts_from 129 0) ≡ refused TooManyPairs
too_many-pairs = refl

pub as_many-pairs_as_fit : tested (counts_from 128 0) ≡ done (counts_from 128 0)
as_many-pairs_as_fit = refl

pub order-before_too_many : tested (counts_from 128 0 ++ entry 127 1 ∷ []) ≡ refused (NotSorted 127 127)
order-before_too_many = refl

-- 20 where the lent list has a place less than there are pairs, and after 18; one of the very length is filled
pub attempts-list_too_short : (decode_into (encode_attempts1 (entry 0 1 ∷ entry 1 2 ∷ [])) (entry 9 9 ∷ [])).outcome ≡ refused OutTooShort
unfolding decode_attempts encode_attempts is_sealed bits unbits polynomial crc xor
attempts-list_too_short = refl

pub attempts-list-fits : (decode_into (encode_attempts1 (entry 0 1 ∷ entry 1 2 ∷ [])) (entry 9 9 ∷ entry 9 9 ∷ [])).outcome ≡ done 2
unfolding decode_attempts encode_attempts is_sealed bits unbits polynomial crc xor
attempts-list-fits = refl

pub order-before_too_short : (decode_into (encode_attempts1 (entry 7 1 ∷ entry 7 2 ∷ [])) []).outcome ≡ refused (NotSorted 7 7)
unfolding decode_attempts encode_attempts is_sealed bits unbits polynomial crc xor
order-before_too_short = refl

-- 19 before 20
pub too_many-before_too_short : (fill (tested (counts_from 129 0)) []).outcome ≡ refused TooManyPairs
too_many-before_too_short = refl

-- ## encoding
-- 19 before 20
pub encode_too_many-before_too_short : (encode_into (counts_from 129 0) 0 []).outcome ≡ refused TooManyPairs
encode_too_many-before_too_short = refl

pub encode_too_many-before_too_short_2 : (encode_into2 (counts_from 129 0) 0 []).outcome ≡ refused TooManyPairs
encode_too_many-before_too_short_2 = refl

-- 19 of an array of 128 of which 129 are to be encoded
pub encode_more_than_there_are : (encode_first 129 (replicate 128 (pair 0 1)) 0 []).outcome ≡ refused TooManyPairs
encode_more_than_there_are = refl

-- 20 where a byte is missing behind the position; with it, the answer is the position behind the snapshot
pub encode_too_short : (encode_into (counts_from 128 0) 4 (replicate 1548 0)).outcome ≡ refused OutTooShort
unfolding encode_attempts
encode_too_short = refl

pub encode_fits : (encode_into (counts_from 128 0) 4 (replicate 1549 0)).outcome ≡ done 1549
unfolding encode_attempts
encode_fits = refl

pub encode_too_short_2 : (encode_into2 (counts_from 128 0) 4 (replicate 1548 0)).outcome ≡ refused OutTooShort
unfolding encode_attempts
encode_too_short_2 = refl

pub encode_fits_2 : (encode_into2 (counts_from 128 0) 4 (replicate 1549 0)).outcome ≡ done 1549
unfolding encode_attempts
encode_fits_2 = refl
