-- Restarts on worn journals, computed. A journal of six groups, the last two in its second half, and what a restart
-- finds where some blocks of it have lost their checks: the last checkpoint, a refusal, an earlier checkpoint, or
-- nothing.
-- SPEC.md, "Restart".
use Rattle.std.specs.Prelude.{ℕ, ◌≡◌, refl, true, List, [], ◌∷◌, ◌++◌, replicate}
use Rattle.std.proofs.Math.Bool.{xor}
use Rattle.types.specs.Refusal.{Code, code, answered}
use Rattle.crc.specs.Crc32c.{bits, unbits, polynomial, crc}
use Rattle.crc.specs.Seal.{is_sealed}
use Rattle.cursor.specs.Cursor.{ackBounded}
use Rattle.cursor.specs.Snapshot.{encode_cursor, decode_cursor}
use Rattle.attempt.specs.Snapshot.{encode_attempts, decode_attempts}
use Rattle.lease.specs.Counts.{all_attempt_counts}
use Rattle.journal.specs.Area.{block_at, write_at}
use Rattle.journal.specs.Blocks.{header_block, body_block, group_of}
use Rattle.journal.specs.Sound.{is_kind, has_header_kind, well_formed, sound_header, sound_body}
use Rattle.journal.specs.Walks.{group_at, walk_over, walk_from, header_behind, payload}
use Rattle.consumer.specs.State.{State, bad_area}
use Rattle.consumer.specs.Calls as consumer
use Rattle.checkpoint.specs.Checkpoint as checkpoint
use Rattle.starts.specs.Restart as restarts
use Rattle.starts.specs.Restart.{fresh, origin, from_walk}
use Rattle.examples.specs.Consumer.{configuration}
use Rattle.machine.specs.Calls.{claim, ack, ask, begin, step}
use Rattle.machine.specs.Transitions.{transition}
use Rattle.crash_safety.specs.Runs.{Item, call, next, ends, fresh_world}

-- by worker 0: a checkpoint of so many block writes; then an offset is handed out, under the generation of its number, and settled
abbrev checkpoints : ℕ → List Item
checkpoints writes = call (begin 0) ∷ replicate writes (call step)

abbrev settles : ℕ → List Item
settles o = call (ask 0 (claim o 0)) ∷ call (ask 0 (ack o o)) ∷ []

-- four groups of two blocks fill the first half of nine, and the fifth goes to the second, which is zeroed before
abbrev items : List Item
items =
    checkpoints 2 ++ settles 0 ++ checkpoints 2 ++ settles 1 ++ checkpoints 2 ++ settles 2 ++ checkpoints 2 ++ settles 3
    ++ checkpoints 11 ++ settles 4 ++ checkpoints 2

abbrev journal : List ℕ
journal = (ends configuration (fresh_world (fresh configuration 9216) 9216) items).journal

-- these blocks are zeros now, whose check fails
abbrev worn : List ℕ → List ℕ
worn [] = journal
worn (i ∷ is) = write_at (worn is) i (replicate 512 0)

-- committed, and the number and the block of the next group
abbrev found : List ℕ → Code
found is = answered (λ (s : State). s.cursor.committed ∷ s.next.number ∷ s.next.block ∷ []) (restarts.restart configuration (worn is))

-- a body of the half in use: 5
pub body-worn : found (10 ∷ []) ≡ code 5 (10 ∷ [])
unfolding ends next transition consumer.claim consumer.ack ackBounded checkpoint.begin checkpoint.header_place checkpoint.zeroed_for checkpoint.step bad_area restarts.restart origin from_walk all_attempt_counts encode_cursor decode_cursor encode_attempts decode_attempts block_at write_at header_block body_block is_kind well_formed sound_header sound_body group_at walk_over walk_from header_behind payload is_sealed bits unbits polynomial crc xor
body-worn = refl

-- the last header: the checkpoint before
pub last-header-worn : found (11 ∷ []) ≡ code 0 (4 ∷ 6 ∷ 11 ∷ [])
unfolding ends next transition consumer.claim consumer.ack ackBounded checkpoint.begin checkpoint.header_place checkpoint.zeroed_for checkpoint.step bad_area restarts.restart origin from_walk all_attempt_counts encode_cursor decode_cursor encode_attempts decode_attempts block_at write_at header_block body_block is_kind well_formed sound_header sound_body group_at walk_over walk_from header_behind payload is_sealed bits unbits polynomial crc xor
last-header-worn = refl

-- the first block of the half in use: the last checkpoint of the other half; and a header names group 6, though group 5 would come next
pub first-block-worn : found (9 ∷ []) ≡ code 0 (3 ∷ 5 ∷ 8 ∷ [])
unfolding ends next transition consumer.claim consumer.ack ackBounded checkpoint.begin checkpoint.header_place checkpoint.zeroed_for checkpoint.step bad_area restarts.restart origin from_walk all_attempt_counts encode_cursor decode_cursor encode_attempts decode_attempts block_at write_at header_block body_block is_kind well_formed sound_header sound_body group_at walk_over walk_from header_behind payload is_sealed bits unbits polynomial crc xor
first-block-worn = refl

pub later-group-named : (has_header_kind (block_at (worn (9 ∷ [])) 11) ≡ true) × (group_of (block_at (worn (9 ∷ [])) 11) ≡ 6)
unfolding ends next transition consumer.claim consumer.ack ackBounded checkpoint.begin checkpoint.header_place checkpoint.zeroed_for checkpoint.step bad_area restarts.restart origin from_walk all_attempt_counts encode_cursor decode_cursor encode_attempts decode_attempts block_at write_at header_block body_block is_kind well_formed sound_header sound_body group_at walk_over walk_from header_behind payload is_sealed bits unbits polynomial crc xor
later-group-named = (refl, refl)

-- all headers but the last: nothing
pub headers-worn : found (0 ∷ 2 ∷ 4 ∷ 6 ∷ 9 ∷ []) ≡ code 0 (0 ∷ 1 ∷ 0 ∷ [])
unfolding ends next transition consumer.claim consumer.ack ackBounded checkpoint.begin checkpoint.header_place checkpoint.zeroed_for checkpoint.step bad_area restarts.restart origin from_walk all_attempt_counts encode_cursor decode_cursor encode_attempts decode_attempts block_at write_at header_block body_block is_kind well_formed sound_header sound_body group_at walk_over walk_from header_behind payload is_sealed bits unbits polynomial crc xor
headers-worn = refl
