-- A list from a foreign journal, computed. What demand 3 says of it is met, with the count that was found.
-- SPEC.md, "Bounds".
use Rattle.std.specs.Prelude.{◌+◌, ◌-◌, ◌*◌, ◌≡◌, refl, true, false, List, [], ◌∷◌}
use Rattle.types.specs.Limits.{MAX}
use Rattle.types.specs.Keyed.{entry}
use Rattle.types.specs.Refusal.{done}
use Rattle.cursor.specs.Cursor.{cursor}
use Rattle.cursor.specs.Snapshot.{encode_cursor}
use Rattle.attempt.specs.Snapshot.{encode_attempts}
use Rattle.delivery.specs.Policy.{Deliver}
use Rattle.lease.specs.Counts.{all_attempt_counts}
use Rattle.journal.specs.Area.{write_at}
use Rattle.journal.specs.Blocks.{header_block, body_block}
use Rattle.consumer.specs.State.{State, next_group_at}
use Rattle.consumer.specs.Calls as consumer
use Rattle.checkpoint.specs.Checkpoint as checkpoint
use Rattle.starts.specs.Restart.{resumed}
use Rattle.examples.specs.Consumer.{configuration, in_version}
use Rattle.machine.specs.Calls.{claim, ask, begin, step, Event, claimed, begun, stepped}
use Rattle.machine.specs.Transitions.{idle, transition}
use Rattle.crash_safety.specs.Runs.{Item, call, world, next, run}
use Rattle.crash_safety.specs.Demand3.{delivers, hand_outs, restarts_in, limit_of, threshold_of}
use Rattle.crash_safety.specs.Batch.{is_repeated, offsets_handed_out, different, different_offsets}
use Rattle.crash_safety.specs.From.{page_of, delivered_before, repeated_before, sum}

-- what a restart finds there (`foreign-counts_2`): ceiling 7, and offset 9 handed out once
abbrev found : State
found = resumed configuration 9216 (cursor 5 []) (entry 9 1 ∷ entry MAX 4 ∷ []) 7 (next_group_at 2 2)

-- M 2, N 1: a checkpoint, and offset 9 is handed out for the second time
abbrev pub items : List Item
items = call (begin 0) ∷ call step ∷ call step ∷ call (ask 0 (claim 9 0)) ∷ []

abbrev pub events : List Event
events =
    begun (done 2) ∷ stepped (done (record { block = 3; last = false })) ∷ stepped (done (record { block = 2; last = true }))
    ∷ claimed 9 0 (done (record { offset = 9; generation = 7; deliveries = 2; destination = Deliver })) ∷ []

pub seen : run configuration (world (idle found) (in_version 2)) items ≡ events
unfolding run next transition consumer.claim checkpoint.begin checkpoint.header_place checkpoint.zeroed_for checkpoint.step all_attempt_counts encode_cursor encode_attempts write_at header_block body_block
seen = refl

-- one delivery that was counted before, and one more
pub bound-met : delivered_before (limit_of configuration) (page_of found) 9 + hand_outs (delivers 9) events
    ≡ limit_of configuration + restarts_in items * (threshold_of configuration + 1)
unfolding hand_outs restarts_in
bound-met = refl

pub batch-met : sum (repeated_before (limit_of configuration) (page_of found)) (different (offsets_handed_out events)) + hand_outs is_repeated events
    ≡ (limit_of configuration - 1) * different_offsets events + restarts_in items * threshold_of configuration
unfolding hand_outs restarts_in offsets_handed_out different different_offsets sum
batch-met = refl
