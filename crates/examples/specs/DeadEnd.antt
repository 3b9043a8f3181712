-- A jam, computed. 128 ranges, and 64 leases and 64 carried counts of offsets that touch none of them. A claim of the
-- lowest open offset is refused, and an ack of a lease too; a commit goes through.
-- SPEC.md, "Lists".
use Rattle.std.specs.Prelude.{ℕ, zero, suc, ◌+◌, ◌≡◌, refl, Bool, true, false, List, [], ◌∷◌, ◌++◌, map, replicate}
use Rattle.std.proofs.Math.Bool.{xor}
use Rattle.std.proofs.Math.Option.{none, some}
use Rattle.types.specs.Refusal.{Full, Shed}
use Rattle.crc.specs.Crc32c.{bits, unbits, polynomial, crc}
use Rattle.crc.specs.Seal.{is_sealed}
use Rattle.cursor.specs.Cursor.{ackBounded, commit_up_to}
use Rattle.cursor.specs.Snapshot.{encode_cursor, decode_cursor}
use Rattle.attempt.specs.Snapshot.{encode_attempts, decode_attempts}
use Rattle.lease.specs.Counts.{all_attempt_counts}
use Rattle.journal.specs.Area.{block_at, write_at}
use Rattle.journal.specs.Blocks.{header_block, body_block}
use Rattle.journal.specs.Sound.{is_kind, well_formed, sound_header, sound_body}
use Rattle.journal.specs.Walks.{group_at, walk_over, walk_from, header_behind, payload}
use Rattle.consumer.specs.State.{bad_area}
use Rattle.consumer.specs.Calls as consumer
use Rattle.checkpoint.specs.Checkpoint as checkpoint
use Rattle.starts.specs.Restart as restarts
use Rattle.starts.specs.Restart.{fresh, origin, from_walk}
use Rattle.examples.specs.Consumer.{configuration}
use Rattle.machine.specs.Calls.{claim, ack, commit, ask, begin, step, restart}
use Rattle.machine.specs.Transitions.{Phase, idle, writing, off, transition}
use Rattle.crash_safety.specs.Runs.{Item, call, World, next, run, ends, fresh_world}
use Rattle.crash_safety.specs.Workers.{refusal_of}
use Rattle.crash_safety.specs.DeadEnds.{is_jammed, is_dead}

-- by worker 0: a checkpoint of so many block writes; n claims from offset o on, of every second one; and as many that are acked, under
-- the generations from g on
abbrev checkpoints : ℕ → List Item
checkpoints writes = call (begin 0) ∷ replicate writes (call step)

abbrev claims : ℕ → ℕ → List Item
claims zero o = []
claims (suc n) o = call (ask 0 (claim o 0)) ∷ claims n (o + 2)

abbrev settles : ℕ → ℕ → ℕ → List Item
settles zero o g = []
settles (suc n) o g = call (ask 0 (claim o 0)) ∷ call (ask 0 (ack o g)) ∷ settles n (o + 2) (g + 1)

-- 64 offsets from 1001 on are handed out, and a restart carries their counts; offsets 1, 3 and so on to 255 are settled; 64 more are
-- handed out from 2001 on
abbrev items : List Item
items = checkpoints 2 ++ claims 64 1001 ++ checkpoints 3 ++ (call restart ∷ []) ++ checkpoints 3 ++ settles 128 1 4160 ++ claims 64 2001

abbrev then : World
then = ends configuration (fresh_world (fresh configuration 9216) 9216) items

abbrev is : Phase → Bool × Bool
is (idle s) = (is_dead s, is_jammed s)
is (writing w) = (false, false)
is off = (false, false)

pub dead : is then.phase ≡ (true, true)
unfolding ends next transition consumer.claim consumer.ack ackBounded checkpoint.begin checkpoint.header_place checkpoint.zeroed_for checkpoint.step bad_area restarts.restart origin from_walk all_attempt_counts encode_cursor decode_cursor encode_attempts decode_attempts block_at write_at header_block body_block is_kind well_formed sound_header sound_body group_at walk_over walk_from header_behind payload is_sealed bits unbits polynomial crc xor
dead = refl

-- offset 0 finds no room, the first lease no range; all below 1 is settled at once
pub only-a-commit : map refusal_of (run configuration then (call (ask 0 (claim 0 0)) ∷ call (ask 0 (ack 2001 4288)) ∷ call (ask 0 (commit 1)) ∷ []))
    ≡ some Full ∷ some Shed ∷ none ∷ []
unfolding run ends next transition consumer.claim consumer.ack consumer.commit ackBounded commit_up_to checkpoint.begin checkpoint.header_place checkpoint.zeroed_for checkpoint.step bad_area restarts.restart origin from_walk all_attempt_counts encode_cursor decode_cursor encode_attempts decode_attempts block_at write_at header_block body_block is_kind well_formed sound_header sound_body group_at walk_over walk_from header_behind payload is_sealed bits unbits polynomial crc xor
only-a-commit = refl
