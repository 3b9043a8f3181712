-- The day of the move, run by computing: an import with counts, its first checkpoint, and a worker who slept through the move and acknowledges
-- with a token of the old server. What is found, the bound and the refusal are as crash_safety/specs/Import.antt has them.
-- SPEC.md, "Import".
use Rattle.std.specs.Prelude.{ℕ, ◌+◌, ◌-◌, ◌*◌, ◌≡◌, refl, true, false, List, [], ◌∷◌, map}
use Rattle.std.proofs.Math.Bool.{xor}
use Rattle.types.specs.Keyed.{entry}
use Rattle.types.specs.Refusal.{refused, done, Fenced, CheckpointDue}
use Rattle.crc.specs.Crc32c.{bits, unbits, polynomial, crc}
use Rattle.crc.specs.Seal.{is_sealed}
use Rattle.cursor.specs.Cursor.{cursor, ackBounded}
use Rattle.cursor.specs.Snapshot.{encode_cursor, decode_cursor}
use Rattle.attempt.specs.Snapshot.{encode_attempts, decode_attempts}
use Rattle.delivery.specs.Policy.{Deliver}
use Rattle.lease.specs.Counts.{all_attempt_counts}
use Rattle.journal.specs.Area.{write_at}
use Rattle.journal.specs.Blocks.{header_block, body_block}
use Rattle.consumer.specs.State.{State, next_group_at, bad_area}
use Rattle.consumer.specs.Calls as consumer
use Rattle.checkpoint.specs.Checkpoint as checkpoint
use Rattle.starts.specs.Restart.{resumed}
use Rattle.starts.specs.Import.{import}
use Rattle.examples.specs.Consumer.{configuration}
use Rattle.machine.specs.Calls.{claim, ack, ask, begin, step, Event, claimed, acked, begun, stepped}
use Rattle.machine.specs.Transitions.{transition}
use Rattle.crash_safety.specs.Runs.{Item, call, next, run, fresh_world}
use Rattle.crash_safety.specs.Demand3.{delivers, hand_outs, restarts_in, limit_of, threshold_of}
use Rattle.crash_safety.specs.Import.{snapshots_page}

-- the old server: offsets 0 to 4 are settled; 3 and 9 were handed out, 9 once. Generations begin at 100
abbrev cursor_bytes : List ℕ
cursor_bytes = encode_cursor (cursor 5 [])

abbrev attempt_bytes : List ℕ
attempt_bytes = encode_attempts 1 (entry 3 7 ∷ entry 9 1 ∷ [])

abbrev imported : State
imported = resumed configuration 9216 (cursor 5 []) (entry 9 1 ∷ []) 100 (next_group_at 1 0)

pub is-imported : import configuration 9216 100 cursor_bytes attempt_bytes ≡ done imported
unfolding import bad_area encode_cursor decode_cursor encode_attempts decode_attempts is_sealed bits unbits polynomial crc xor
is-imported = refl

-- what the snapshots have: the count of a settled offset is none
pub counts : map (snapshots_page cursor_bytes attempt_bytes).count (3 ∷ 8 ∷ 9 ∷ []) ≡ 0 ∷ 0 ∷ 1 ∷ []
unfolding encode_cursor decode_cursor encode_attempts decode_attempts is_sealed bits unbits polynomial crc xor
counts = refl

pub settled : map (snapshots_page cursor_bytes attempt_bytes).settled (4 ∷ 5 ∷ []) ≡ true ∷ false ∷ []
unfolding encode_cursor decode_cursor encode_attempts decode_attempts is_sealed bits unbits polynomial crc xor
settled = refl

-- a claim before the checkpoint; the checkpoint; the sleeper's ack of offset 9 under generation 0, before and after it is handed out, and under
-- 99; and that of the worker who has it
abbrev items : List Item
items =
    call (ask 0 (claim 9 0)) ∷ call (begin 0) ∷ call step ∷ call step ∷ call (ask 0 (ack 9 0)) ∷ call (ask 0 (claim 9 0)) ∷ call (ask 0 (ack 9 0))
    ∷ call (ask 0 (ack 9 99)) ∷ call (ask 0 (ack 9 100)) ∷ []

-- M 2, N 1: it is delivered for the second time, which is the last
abbrev events : List Event
events =
    claimed 9 0 (refused CheckpointDue) ∷ begun (done 2) ∷ stepped (done (record { block = 1; last = false }))
    ∷ stepped (done (record { block = 0; last = true })) ∷ acked 9 0 (refused Fenced)
    ∷ claimed 9 0 (done (record { offset = 9; generation = 100; deliveries = 2; destination = Deliver })) ∷ acked 9 0 (refused Fenced)
    ∷ acked 9 99 (refused Fenced) ∷ acked 9 100 (done tt) ∷ []

pub seen : run configuration (fresh_world imported 9216) items ≡ events
unfolding run next transition consumer.claim consumer.ack ackBounded checkpoint.begin checkpoint.header_place checkpoint.zeroed_for checkpoint.step all_attempt_counts encode_cursor encode_attempts write_at header_block body_block
seen = refl

-- M − k, with k = 1
pub bound-met : hand_outs (delivers 9) events ≡ limit_of configuration - 1 + restarts_in items * (threshold_of configuration + 1)
unfolding hand_outs restarts_in
bound-met = refl
