-- A list that meets demand 3's bound, computed. With less than M + C × (N + 1) the demand would be false, and its lists
-- are lists in which things happen.
-- SPEC.md, "Bounds".
use Rattle.std.specs.Prelude.{◌+◌, ◌*◌, ◌≡◌, refl, List, [], ◌∷◌, replicate}
use Rattle.std.proofs.Math.Bool.{xor}
use Rattle.crc.specs.Crc32c.{bits, unbits, polynomial, crc}
use Rattle.crc.specs.Seal.{is_sealed}
use Rattle.cursor.specs.Snapshot.{encode_cursor, decode_cursor}
use Rattle.attempt.specs.Snapshot.{encode_attempts, decode_attempts}
use Rattle.lease.specs.Counts.{all_attempt_counts}
use Rattle.journal.specs.Area.{block_at, write_at}
use Rattle.journal.specs.Blocks.{header_block, body_block}
use Rattle.journal.specs.Sound.{is_kind, well_formed, sound_header, sound_body}
use Rattle.journal.specs.Walks.{group_at, walk_over, walk_from, header_behind, payload}
use Rattle.consumer.specs.State.{bad_area}
use Rattle.consumer.specs.Calls as consumer
use Rattle.checkpoint.specs.Checkpoint as checkpoint
use Rattle.starts.specs.Restart as restarts
use Rattle.starts.specs.Restart.{fresh, origin, from_walk}
use Rattle.examples.specs.Consumer.{configuration}
use Rattle.machine.specs.Calls.{claim, ask, begin, step, restart}
use Rattle.machine.specs.Transitions.{transition}
use Rattle.power_cut.specs.Cut.{torn}
use Rattle.crash_safety.specs.Runs.{Item, call, cut, next, run, fresh_world}
use Rattle.crash_safety.specs.Demand3.{delivers, hand_outs, restarts_in}

-- by worker 0: a checkpoint; offset 0 is handed out twice; the power fails in the header of the next checkpoint; a restart, a checkpoint, and
-- offset 0 is handed out twice again, as the counts since the first checkpoint are lost
abbrev pub items : List Item
items =
    call (begin 0) ∷ call step ∷ call step
    ∷ call (ask 0 (claim 0 0)) ∷ call (ask 0 (claim 0 10))
    ∷ call (begin 0) ∷ call step ∷ cut (torn (replicate 512 0))
    ∷ call restart
    ∷ call (begin 0) ∷ call step ∷ call step
    ∷ call (ask 0 (claim 0 20)) ∷ call (ask 0 (claim 0 30)) ∷ []

pub bound-met : hand_outs (delivers 0) (run configuration (fresh_world (fresh configuration 9216) 9216) items)
    ≡ configuration.settings.policy.maxDeliver + restarts_in items * (configuration.settings.policy.flush_redeliveries + 1)
unfolding hand_outs restarts_in run next transition consumer.claim checkpoint.begin checkpoint.header_place checkpoint.zeroed_for checkpoint.step bad_area restarts.restart origin from_walk all_attempt_counts encode_cursor decode_cursor encode_attempts decode_attempts block_at write_at header_block body_block is_kind well_formed sound_header sound_body group_at walk_over walk_from header_behind payload is_sealed bits unbits polynomial crc xor
bound-met = refl
