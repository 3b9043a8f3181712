-- The incident, in the numbers that a server is answered, computed. A worker who slept through a restart acknowledges
-- with the token from before it, although another worker now has the job. He is told 24; with the other's token 40; and
-- the other is accepted. And the same on the day of the move, with a token of the old server.
-- SPEC.md, "Tokens".
use Rattle.std.specs.Prelude.{ℕ, ◌+◌, ◌≡◌, refl, true, false, List, [], ◌∷◌, ◌++◌, replicate}
use Rattle.std.proofs.Math.Bool.{xor}
use Rattle.std.proofs.Math.Option.{none}
use Rattle.crc.specs.Crc32c.{bits, unbits, polynomial, crc}
use Rattle.crc.specs.Seal.{is_sealed}
use Rattle.types.specs.Keyed.{entry}
use Rattle.types.specs.Refusal.{done}
use Rattle.cursor.specs.Cursor.{cursor, ackBounded}
use Rattle.cursor.specs.Snapshot.{encode_cursor, decode_cursor}
use Rattle.attempt.specs.Snapshot.{encode_attempts, decode_attempts}
use Rattle.delivery.specs.Policy.{policy}
use Rattle.lease.specs.Counts.{all_attempt_counts}
use Rattle.journal.specs.Area.{block_at, write_at}
use Rattle.journal.specs.Blocks.{header_block, body_block}
use Rattle.journal.specs.Sound.{is_kind, well_formed, sound_header, sound_body}
use Rattle.journal.specs.Walks.{group_at, walk_over, walk_from, header_behind, payload}
use Rattle.consumer.specs.State.{Configuration, State, next_group_at, bad_area}
use Rattle.consumer.specs.Calls as consumer
use Rattle.checkpoint.specs.Checkpoint as checkpoint
use Rattle.starts.specs.Restart as restarts
use Rattle.starts.specs.Restart.{resumed, fresh, origin, from_walk}
use Rattle.starts.specs.Import.{import}
use Rattle.machine.specs.Calls.{claim, ack, ask, begin, step, restart}
use Rattle.machine.specs.Transitions.{transition}
use Rattle.answers.specs.Numbers.{numbers}
use Rattle.answers.specs.declared.Numbers.{Numbers}
use Rattle.crash_safety.specs.Runs.{Item, call, next, fresh_world}
use Rattle.served.specs.Served.{answers_to}
use Rattle.served.specs.Told.{told_of, given_up_told}

-- M 2, N 1, visibility 10, cap 25; workers 0 and 1 may do everything
abbrev configuration : Configuration
configuration =
    record {
      settings = record { policy = policy 2 false [] 1; rights = 127 ∷ 127 ∷ replicate 6 0; hours = none };
      lease = record { visibility_nanos = 10; hard_cap_nanos = 25 };
    }

-- a checkpoint of one body, with its header at a block
abbrev checkpointed : List Item
checkpointed = call (begin 0) ∷ call step ∷ call step ∷ []

abbrev wrote : ℕ → List Numbers
wrote header = numbers 0 1 2 0 0 0 0 ∷ numbers 0 2 (header + 1) 0 0 0 0 ∷ numbers 0 2 header 1 0 0 0 ∷ []

-- worker 0's claim; the restart; worker 1's claim; the late ack, with the old token and with the new one; and that of worker 1
abbrev since : List Item
since = call restart ∷ checkpointed ++ (call (ask 1 (claim 0 100)) ∷ [])

abbrev late : List Item
late = call (ask 0 (ack 0 0)) ∷ call (ask 0 (ack 0 4096)) ∷ []

abbrev items : List Item
items = checkpointed ++ (call (ask 0 (claim 0 0)) ∷ since ++ (late ++ (call (ask 1 (ack 0 4096)) ∷ [])))

-- the answers: generations 0 and 4096, with a count of 1 each; then 24, 40, and 0
abbrev told_since : List Numbers
told_since = numbers 0 0 0 0 0 0 0 ∷ wrote 2 ++ (numbers 0 3 4096 1 0 0 0 ∷ [])

abbrev told_late : List Numbers
told_late = numbers 24 0 0 0 0 0 0 ∷ numbers 40 0 0 0 0 0 0 ∷ []

pub incident : answers_to configuration (fresh_world (fresh configuration 9216) 9216) items
    ≡ wrote 0 ++ (numbers 0 3 0 1 0 0 0 ∷ told_since ++ (told_late ++ (numbers 0 0 0 0 0 0 0 ∷ [])))
unfolding answers_to next transition consumer.claim consumer.ack ackBounded checkpoint.begin checkpoint.header_place checkpoint.zeroed_for checkpoint.step bad_area restarts.restart origin from_walk all_attempt_counts encode_cursor decode_cursor encode_attempts decode_attempts block_at write_at header_block body_block is_kind well_formed sound_header sound_body group_at walk_over walk_from header_behind payload is_sealed bits unbits polynomial crc xor
incident = refl

-- by these numbers the first token was given up, and the refused acks leave the second one held
pub given_up : given_up_told 0 (told_of since told_since) ≡ true
unfolding told_of given_up_told
given_up = refl

pub held : given_up_told 0 (told_of late told_late) ≡ false
unfolding told_of given_up_told
held = refl

-- ## the day of the move
-- the old server had settled 0 to 4 and handed 9 out once; generations begin at 100
abbrev cursor_bytes : List ℕ
cursor_bytes = encode_cursor (cursor 5 [])

abbrev attempt_bytes : List ℕ
attempt_bytes = encode_attempts 1 (entry 3 7 ∷ entry 9 1 ∷ [])

abbrev imported : State
imported = resumed configuration 9216 (cursor 5 []) (entry 9 1 ∷ []) 100 (next_group_at 1 0)

pub is-imported : import configuration 9216 100 cursor_bytes attempt_bytes ≡ done imported
unfolding import bad_area encode_cursor decode_cursor encode_attempts decode_attempts is_sealed bits unbits polynomial crc xor
is-imported = refl

-- the sleeper's ack with a token of the old server, before and after worker 1 has his job: 24; and that of worker 1
abbrev sleeper : Item
sleeper = call (ask 0 (ack 9 0))

pub day_of_the_move : answers_to configuration (fresh_world imported 9216) (checkpointed ++ (sleeper ∷ call (ask 1 (claim 9 0)) ∷ sleeper ∷ call (ask 1 (ack 9 100)) ∷ []))
    ≡ wrote 0 ++ (numbers 24 0 0 0 0 0 0 ∷ numbers 0 3 100 2 0 0 0 ∷ numbers 24 0 0 0 0 0 0 ∷ numbers 0 0 0 0 0 0 0 ∷ [])
unfolding answers_to next transition consumer.claim consumer.ack ackBounded checkpoint.begin checkpoint.header_place checkpoint.zeroed_for checkpoint.step all_attempt_counts encode_cursor encode_attempts write_at header_block body_block
day_of_the_move = refl
