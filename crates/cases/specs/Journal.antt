-- Cases of the refusals around the journal: start 1 to 3 and 4 (Hours.antt has 33 and 34, which stand between); restart 4 and 5, then
-- those of the snapshots; begin 31; step 4; and of the journal's own functions 4 and 20. proofs/Order.antt has more of a restart, and
-- crates/examples restarts that are answered.
-- SPEC.md, "Restart".
use Rattle.std.specs.Prelude.{ℕ, ◌≡◌, refl, true, false, List, [], ◌∷◌, ◌++◌, take, replicate}
use Rattle.std.proofs.Math.Bool.{xor}
use Rattle.std.proofs.Math.Option.{none}
use Rattle.types.specs.Refusal.{refused, done, UnlimitedDeliverNotAllowed, TooManySteps, ZeroThreshold, BadArea}
use Rattle.types.specs.Refusal.{Damaged, CursorUnsupportedVersion, AttemptUnsupportedVersion, OutTooShort, JournalFull}
use Rattle.crc.specs.Crc32c.{bits, unbits, polynomial, crc}
use Rattle.crc.specs.Seal.{is_sealed}
use Rattle.cursor.specs.Cursor.{cursor}
use Rattle.cursor.specs.Snapshot.{encode_cursor, decode_cursor}
use Rattle.attempt.specs.Snapshot.{encode_attempts, decode_attempts}
use Rattle.delivery.specs.Policy.{policy}
use Rattle.lease.specs.Counts.{all_attempt_counts}
use Rattle.journal.specs.Area.{block_at}
use Rattle.journal.specs.Blocks.{header_block, body_block}
use Rattle.journal.specs.Sound.{is_kind, well_formed, sound_header, sound_body}
use Rattle.journal.specs.Walks.{stop, group_at, walk_over, walk_from, header_behind, payload}
use Rattle.journal.specs.Answers.{fill, write_block, walk_in, read_payload}
use Rattle.consumer.specs.State.{Configuration, State, state_of, next_group_at, bad_area}
use Rattle.checkpoint.specs.Checkpoint.{header_place, zeroed_for, writes, group_block, begin, step, writing}
use Rattle.starts.specs.Restart.{start, fresh, read_group, origin, from_walk, restart}
use Rattle.cases.specs.States.{ranges_from, lease_config, rights, table_of}

-- ## start
-- a limit, without the opt-in; n backoffs; a flush threshold
abbrev configuration : ℕ → ℕ → ℕ → Configuration
configuration m n threshold =
    record { settings = record { policy = policy m false (replicate n 5) threshold; rights = rights; hours = none }; lease = lease_config }

abbrev accepted : Configuration
accepted = configuration 2 0 1

-- 1 before 2, 3 and 4
pub start-unlimited : start (configuration 0 17 0) 0 ≡ refused UnlimitedDeliverNotAllowed
unfolding start
start-unlimited = refl

-- 2 before 3 and 4
pub start_too_many-steps : start (configuration 2 17 0) 0 ≡ refused TooManySteps
unfolding start
start_too_many-steps = refl

-- 3 before 4
pub start-zero-threshold : start (configuration 2 16 0) 0 ≡ refused ZeroThreshold
unfolding start
start-zero-threshold = refl

-- 4 for no bytes, for parts of a block, for fewer than 18 blocks, an odd number of them and for 130; from 18 to 128 a start
pub start-on-nothing : start accepted 0 ≡ refused BadArea
unfolding start bad_area
start-on-nothing = refl

pub start-below-a-block : start accepted 9215 ≡ refused BadArea
unfolding start bad_area
start-below-a-block = refl

pub start-above-a-block : start accepted 9217 ≡ refused BadArea
unfolding start bad_area
start-above-a-block = refl

pub start-on_130_blocks : start accepted 66560 ≡ refused BadArea
unfolding start bad_area
start-on_130_blocks = refl

pub start-on_16_blocks : start accepted 8192 ≡ refused BadArea
unfolding start bad_area
start-on_16_blocks = refl

pub start-on_127_blocks : start accepted 65024 ≡ refused BadArea
unfolding start bad_area
start-on_127_blocks = refl

pub start-on_18_blocks : start accepted 9216 ≡ done (fresh accepted 9216)
unfolding start bad_area
start-on_18_blocks = refl

pub start-on_128_blocks : start accepted 65536 ≡ done (fresh accepted 65536)
unfolding start bad_area
start-on_128_blocks = refl

-- ## restart
-- 18 blocks in halves of 9, with zeros behind what stands in each of them
abbrev halves : List ℕ → List ℕ → List ℕ
halves first second = take 4608 (first ++ replicate 4608 0) ++ take 4608 (second ++ replicate 4608 0)

-- a sound header of group 1 that counts two bodies, with what stands behind it
abbrev headed : List ℕ → List ℕ
headed behind = header_block 1 4096 493 9 ++ behind

-- 4 before 5
pub restart-bad-area-before-damaged : restart accepted (headed (replicate 1025 0)) ≡ refused BadArea
unfolding restart bad_area header_block
restart-bad-area-before-damaged = refl

-- 5 with the first unsound body, counted from 0
pub restart-first-body-damaged : restart accepted (halves (headed []) []) ≡ refused (Damaged 1)
unfolding restart bad_area origin from_walk walk_from walk_over group_at sound_header well_formed sound_body is_kind is_sealed block_at header_block crc bits unbits polynomial xor
restart-first-body-damaged = refl

pub restart-second-body-damaged : restart accepted (halves (headed (body_block 1 1 (replicate 500 7))) []) ≡ refused (Damaged 2)
unfolding restart bad_area origin from_walk walk_from walk_over group_at sound_header well_formed sound_body is_kind is_sealed block_at header_block body_block crc bits unbits polynomial xor
restart-second-body-damaged = refl

-- 5 with the block where the walk ended, for a header there that has the number and is sound, but for the room in its half: here
-- in its last block, behind a group of seven bodies
abbrev eight_blocks : List ℕ
eight_blocks =
    header_block 1 4096 2061 1000 ++ body_block 1 1 full ++ body_block 1 2 full ++ body_block 1 3 full ++ body_block 1 4 full
    ++ body_block 1 5 full ++ body_block 1 6 full ++ body_block 1 7 (replicate 61 7)
  where
    full : List ℕ
    full = replicate 500 7

pub restart-header-without-room : restart accepted (halves (eight_blocks ++ header_block 2 4096 13 9) []) ≡ refused (Damaged 8)
unfolding restart bad_area origin from_walk walk_from walk_over group_at header_behind sound_header well_formed sound_body is_kind is_sealed block_at header_block body_block crc bits unbits polynomial xor
restart-header-without-room = refl

-- the half is read whose first block is a sound header, the greater number first, the first half where they are equal; its blocks are
-- counted from the start of the area
pub restart-second-half : restart accepted (halves [] (header_block 2 4096 13 9)) ≡ refused (Damaged 10)
unfolding restart bad_area origin from_walk walk_from walk_over group_at sound_header well_formed sound_body is_kind is_sealed block_at header_block crc bits unbits polynomial xor
restart-second-half = refl

pub restart_greater_number : restart accepted (halves (header_block 1 4096 13 9) (header_block 2 4096 13 9)) ≡ refused (Damaged 10)
unfolding restart bad_area origin from_walk walk_from walk_over group_at sound_header well_formed sound_body is_kind is_sealed block_at header_block crc bits unbits polynomial xor
restart_greater_number = refl

pub restart-equal-numbers : restart accepted (halves (header_block 2 4096 13 9) (header_block 2 4096 13 9)) ≡ refused (Damaged 1)
unfolding restart bad_area origin from_walk walk_from walk_over group_at sound_header well_formed sound_body is_kind is_sealed block_at header_block crc bits unbits polynomial xor
restart-equal-numbers = refl

-- its number may be any
pub restart-number_0 : restart accepted (halves (header_block 0 4096 13 9) []) ≡ refused (Damaged 1)
unfolding restart bad_area origin from_walk walk_from walk_over group_at sound_header well_formed sound_body is_kind is_sealed block_at header_block crc bits unbits polynomial xor
restart-number_0 = refl

-- a block of kind 1 with a right check, though no sound header
abbrev kind1 : List ℕ
kind1 = header_block 7 0 0 0

-- 5, with the block where the walk ended, for such a block right behind it, and in the last block of the half in use; not for one in
-- the other half
pub restart-header-right-behind : restart accepted (halves (replicate 512 0 ++ kind1) []) ≡ refused (Damaged 0)
unfolding restart bad_area origin from_walk walk_from walk_over group_at header_behind sound_header well_formed is_kind is_sealed block_at header_block crc bits unbits polynomial xor
restart-header-right-behind = refl

pub restart-header_in_the_last-block : restart accepted (halves (replicate 4096 0 ++ kind1) []) ≡ refused (Damaged 0)
unfolding restart bad_area origin from_walk walk_from walk_over group_at header_behind sound_header well_formed is_kind is_sealed block_at header_block crc bits unbits polynomial xor
restart-header_in_the_last-block = refl

pub restart-header_in_the_other-half : restart accepted (halves [] kind1) ≡ done (fresh accepted 9216)
unfolding restart bad_area origin from_walk walk_from walk_over group_at header_behind sound_header well_formed is_kind is_sealed block_at header_block crc bits unbits polynomial xor
restart-header_in_the_other-half = refl

-- a block of kind 1 whose check is wrong is none
pub restart-wrong-check-behind : restart accepted (halves (replicate 512 0 ++ (1 ∷ [])) []) ≡ done (fresh accepted 9216)
unfolding restart bad_area origin from_walk walk_from walk_over group_at header_behind sound_header well_formed is_kind is_sealed block_at crc bits unbits polynomial xor
restart-wrong-check-behind = refl

-- an unsound body on the walk is named first
pub restart-body-before-header-behind : restart accepted (halves (headed (replicate 1536 0 ++ kind1)) []) ≡ refused (Damaged 1)
unfolding restart bad_area origin from_walk walk_from walk_over group_at sound_header well_formed sound_body is_kind is_sealed block_at header_block crc bits unbits polynomial xor
restart-body-before-header-behind = refl

-- the header of group 1 with snapshots of 13 and 9 bytes, and the group with these bytes as its payload
abbrev header : List ℕ
header = header_block 1 4096 13 9

abbrev group_with : List ℕ → List ℕ
group_with bytes = header ++ body_block 1 1 bytes

-- 5 for a header behind comes before what is in the last group
pub restart-header-behind-before-cursor : restart accepted (halves (group_with (replicate 22 0) ++ (replicate 512 0 ++ kind1)) []) ≡ refused (Damaged 2)
unfolding restart bad_area origin from_walk walk_from walk_over group_at header_behind sound_header well_formed sound_body is_kind is_sealed block_at header_block body_block crc bits unbits polynomial xor
restart-header-behind-before-cursor = refl

-- after 5, in the last group: the refusals of the cursor's snapshot, then those of the attempts'; here both are of version 0
pub restart-cursor-before-attempts : read_group accepted (group_with (replicate 22 0)) 0 (next_group_at 2 2) ≡ refused (CursorUnsupportedVersion 0)
unfolding block_at header_block body_block payload decode_cursor
restart-cursor-before-attempts = refl

pub restart-attempts-after-cursor : read_group accepted (group_with (encode_cursor (cursor 5 []) ++ replicate 9 0)) 0 (next_group_at 2 2) ≡ refused (AttemptUnsupportedVersion 0)
unfolding block_at header_block body_block payload encode_cursor decode_cursor decode_attempts is_sealed crc bits unbits polynomial xor
restart-attempts-after-cursor = refl

-- ## begin
-- the next group with this number at this block of 18, and so many ranges in the cursor
abbrev pub numbered : ℕ → ℕ → ℕ → State
numbered number block ranges =
    state_of (cursor 0 (ranges_from ranges 1)) (table_of [] [] 1 0) 4096 (next_group_at number block) 9216 accepted.settings

abbrev written : ℕ → ℕ → State
written block ranges = numbered 2 block ranges

-- 31 where the number is one more than a header holds; with the largest, a record, whether the group fits in its half or not
pub begin-journal-full : begin (numbered 4294967296 2 0) 0 ≡ refused JournalFull
unfolding begin
begin-journal-full = refl

pub begin-with_the_last-number : begin (numbered 4294967295 2 0) 0 ≡ done (writing (numbered 4294967295 2 0) 0)
unfolding begin
begin-with_the_last-number = refl

pub begin_in_the_last-block : begin (numbered 4294967295 17 0) 0 ≡ done (writing (numbered 4294967295 17 0) 0)
unfolding begin
begin_in_the_last-block = refl

-- how many writes it takes, and where its header goes: with a block less in the half in use than a header and its body need, the
-- nine blocks of the other half are zeroed first
pub record Goes (s : State) (count block : ℕ) : Type 0 where
  pub takes : writes s ≡ count
  pub goes : group_block s ≡ block

pub two-blocks-left_in_the_first-half : Goes (written 7 0) 2 7
unfolding header_place zeroed_for encode_cursor encode_attempts all_attempt_counts
two-blocks-left_in_the_first-half = record { takes = refl; goes = refl }

pub one-block-left_in_the_first-half : Goes (written 8 0) 11 9
unfolding header_place zeroed_for encode_cursor encode_attempts all_attempt_counts
one-block-left_in_the_first-half = record { takes = refl; goes = refl }

pub first-half_just_full : Goes (written 9 0) 11 9
unfolding header_place zeroed_for encode_cursor encode_attempts all_attempt_counts
first-half_just_full = record { takes = refl; goes = refl }

pub two-blocks-left_in_the_second-half : Goes (written 16 0) 2 16
unfolding header_place zeroed_for encode_cursor encode_attempts all_attempt_counts
two-blocks-left_in_the_second-half = record { takes = refl; goes = refl }

pub one-block-left_in_the_second-half : Goes (written 17 0) 11 0
unfolding header_place zeroed_for encode_cursor encode_attempts all_attempt_counts
one-block-left_in_the_second-half = record { takes = refl; goes = refl }

-- 29 ranges take 486 bytes with the counts and so one body; 30 take 502 and two
pub with-one-body : Goes (written 16 29) 2 16
unfolding header_place zeroed_for encode_cursor encode_attempts all_attempt_counts
with-one-body = record { takes = refl; goes = refl }

pub with-two-bodies : Goes (written 16 30) 12 0
unfolding header_place zeroed_for encode_cursor encode_attempts all_attempt_counts
with-two-bodies = record { takes = refl; goes = refl }

-- ## step
-- 4 for an area of another length than the consumer's, though a consumer could be started on it
pub step-on-another-area : (step (writing (written 0 0) 0) (replicate 10240 0)).outcome ≡ refused BadArea
unfolding step
step-on-another-area = refl

-- a body behind the header's place on its own area
pub step-on_its_own-area : (step (writing (fresh accepted 9216) 0) (replicate 9216 0)).outcome ≡ done (record { block = 1; last = false })
unfolding step header_place zeroed_for encode_cursor encode_attempts all_attempt_counts
step-on_its_own-area = refl

-- to the other half: zeros on its nine blocks, then the body, then the header
pub step_zeroes_first : (step (writing (written 8 0) 0) (replicate 9216 0)).outcome ≡ done (record { block = 9; last = false })
unfolding step header_place zeroed_for encode_cursor encode_attempts all_attempt_counts
step_zeroes_first = refl

pub step_zeroes_last : (step (writing (written 8 0) 8) (replicate 9216 0)).outcome ≡ done (record { block = 17; last = false })
unfolding step header_place zeroed_for encode_cursor encode_attempts all_attempt_counts
step_zeroes_last = refl

pub step-behind_the_zeros : (step (writing (written 8 0) 9) (replicate 9216 0)).outcome ≡ done (record { block = 10; last = false })
unfolding step header_place zeroed_for encode_cursor encode_attempts all_attempt_counts
step-behind_the_zeros = refl

pub step-of_the_header : (step (writing (written 8 0) 10) (replicate 9216 0)).outcome ≡ done (record { block = 9; last = true })
unfolding step header_place zeroed_for encode_cursor encode_attempts all_attempt_counts
step-of_the_header = refl

-- ## blocks, as the journal itself has them
-- 4 for a part of the area that is no block, and for a block behind the end
pub fill-no-block : (fill header (replicate 511 0)).outcome ≡ refused BadArea
unfolding fill
fill-no-block = refl

pub fill-a-block : (fill header (replicate 512 0)).outcome ≡ done tt
unfolding fill
fill-a-block = refl

pub write-behind_the_end : (write_block 2 header (replicate 1024 0)).outcome ≡ refused BadArea
unfolding write_block
write-behind_the_end = refl

pub write_the_last-block : (write_block 1 header (replicate 1024 0)).outcome ≡ done tt
unfolding write_block
write_the_last-block = refl

-- 4 for a walk over no whole blocks; a walk over zeros ends where it begins
pub walk-no-whole-blocks : walk_in 2 1 0 (replicate 1023 0) ≡ refused BadArea
unfolding walk_in
walk-no-whole-blocks = refl

pub walk-whole-blocks : walk_in 2 1 0 (replicate 1024 0) ≡ stop none 1 0
unfolding walk_in walk_from walk_over group_at sound_header well_formed is_kind block_at
walk-whole-blocks = refl

-- 4 for a payload behind the end, before 20; 20 with a byte less than the payload has
pub payload-behind_the_end : (read_payload 0 header []).outcome ≡ refused BadArea
unfolding read_payload block_at header_block
payload-behind_the_end = refl

pub payload_too_short : (read_payload 0 (header ++ replicate 512 0) (replicate 21 0)).outcome ≡ refused OutTooShort
unfolding read_payload block_at header_block
payload_too_short = refl

pub payload-fits : (read_payload 0 (header ++ replicate 512 0) (replicate 22 0)).outcome ≡ done 22
unfolding read_payload block_at header_block
payload-fits = refl
