-- A commit over a held job and a restart over the commit, computed.
-- SPEC.md, "Commit".
use Rattle.std.specs.Prelude.{◌≡◌, refl, List, [], ◌∷◌, map}
use Rattle.std.proofs.Math.Bool.{xor}
use Rattle.std.proofs.Math.Option.{none, some}
use Rattle.types.specs.Refusal.{Fenced}
use Rattle.types.specs.Keyed.{entry}
use Rattle.crc.specs.Crc32c.{bits, unbits, polynomial, crc}
use Rattle.crc.specs.Seal.{is_sealed}
use Rattle.cursor.specs.Cursor.{resume, commit_up_to}
use Rattle.cursor.specs.Snapshot.{encode_cursor, decode_cursor}
use Rattle.attempt.specs.Snapshot.{encode_attempts, decode_attempts}
use Rattle.lease.specs.Counts.{all_attempt_counts}
use Rattle.journal.specs.Area.{block_at, write_at}
use Rattle.journal.specs.Blocks.{header_block, body_block}
use Rattle.journal.specs.Sound.{is_kind, well_formed, sound_header, sound_body}
use Rattle.journal.specs.Walks.{group_at, walk_over, walk_from, header_behind, payload}
use Rattle.consumer.specs.State.{bad_area, next_group_at}
use Rattle.consumer.specs.Calls as consumer
use Rattle.checkpoint.specs.Checkpoint as checkpoint
use Rattle.starts.specs.Restart as restarts
use Rattle.starts.specs.Restart.{resumed, fresh, origin, from_walk}
use Rattle.examples.specs.Consumer.{configuration}
use Rattle.machine.specs.Calls.{claim, ack, commit, ask, begin, step, restart}
use Rattle.machine.specs.Transitions.{idle, transition}
use Rattle.crash_safety.specs.Runs.{Item, call, next, run, ends, fresh_world}
use Rattle.crash_safety.specs.Workers.{refusal_of}

-- by worker 0: a checkpoint; offset 0 is handed out, and a second checkpoint has its count; a commit settles it though it is held, and
-- its ack comes too late; a restart, and the ack once more
abbrev items : List Item
items =
    call (begin 0) ∷ call step ∷ call step
    ∷ call (ask 0 (claim 0 0))
    ∷ call (begin 0) ∷ call step ∷ call step
    ∷ call (ask 0 (commit 1)) ∷ call (ask 0 (ack 0 0))
    ∷ call restart
    ∷ call (ask 0 (ack 0 0)) ∷ []

-- only the two acks are refused, 24
pub too_late : map refusal_of (run configuration (fresh_world (fresh configuration 9216) 9216) items)
    ≡ none ∷ none ∷ none ∷ none ∷ none ∷ none ∷ none ∷ none ∷ some Fenced ∷ none ∷ some Fenced ∷ []
unfolding run next transition consumer.claim consumer.ack consumer.commit commit_up_to checkpoint.begin checkpoint.header_place checkpoint.zeroed_for checkpoint.step bad_area restarts.restart origin from_walk all_attempt_counts encode_cursor decode_cursor encode_attempts decode_attempts block_at write_at header_block body_block is_kind well_formed sound_header sound_body group_at walk_over walk_from header_behind payload is_sealed bits unbits polynomial crc xor
too_late = refl

-- the restart found nothing settled, and offset 0 with the count of the second checkpoint
pub found : (ends configuration (fresh_world (fresh configuration 9216) 9216) items).phase
    ≡ idle (resumed configuration 9216 (resume 0) (entry 0 1 ∷ []) 4097 (next_group_at 3 4))
unfolding ends next transition consumer.claim consumer.ack consumer.commit commit_up_to checkpoint.begin checkpoint.header_place checkpoint.zeroed_for checkpoint.step bad_area restarts.restart origin from_walk all_attempt_counts encode_cursor decode_cursor encode_attempts decode_attempts block_at write_at header_block body_block is_kind well_formed sound_header sound_body group_at walk_over walk_from header_behind payload is_sealed bits unbits polynomial crc xor
found = refl
