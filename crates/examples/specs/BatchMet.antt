-- Lists that meet the bounds over the batch, computed. With less than (M − 1) × D + C × N the first bound would be
-- false. Of all deliveries its list has more than M × D, so that the bound on these needs its second part. And a list
-- that takes as many generations between two headers as there are.
-- SPEC.md, "Bounds".
use Rattle.std.specs.Prelude.{ℕ, zero, suc, ◌+◌, ◌*◌, ◌-◌, ◌≡◌, refl, false, List, [], ◌∷◌, replicate}
use Rattle.std.proofs.Math.Bool.{xor}
use Rattle.std.proofs.Math.Option.{none}
use Rattle.crc.specs.Crc32c.{bits, unbits, polynomial, crc}
use Rattle.crc.specs.Seal.{is_sealed}
use Rattle.cursor.specs.Cursor.{cursor, ackBounded}
use Rattle.cursor.specs.Snapshot.{encode_cursor, decode_cursor}
use Rattle.attempt.specs.Snapshot.{encode_attempts, decode_attempts}
use Rattle.delivery.specs.Policy.{policy}
use Rattle.lease.specs.State.{starting_at}
use Rattle.lease.specs.Counts.{all_attempt_counts}
use Rattle.journal.specs.Area.{block_at, write_at}
use Rattle.journal.specs.Blocks.{header_block, body_block}
use Rattle.journal.specs.Sound.{is_kind, well_formed, sound_header, sound_body}
use Rattle.journal.specs.Walks.{group_at, walk_over, walk_from, header_behind, payload}
use Rattle.consumer.specs.State.{Configuration, State, state_of, next_group_at, bad_area}
use Rattle.consumer.specs.Calls as consumer
use Rattle.checkpoint.specs.Checkpoint as checkpoint
use Rattle.starts.specs.Restart as restarts
use Rattle.starts.specs.Restart.{fresh, origin, from_walk}
use Rattle.machine.specs.Calls.{claim, ack, ask, begin, step, restart, Event}
use Rattle.machine.specs.Transitions.{idle, transition}
use Rattle.crash_safety.specs.Runs.{Item, call, world, next, run, ends, fresh_world}
use Rattle.crash_safety.specs.Demand3.{hand_outs, restarts_in}
use Rattle.crash_safety.specs.Batch.{is_repeated, offsets_handed_out, different, different_offsets}
use Rattle.crash_safety.specs.Totals.{is_delivery, taken_in}

-- M 3, N 2, visibility 10, cap 25; worker 0 may do everything
abbrev configuration : Configuration
configuration =
    record {
      settings = record { policy = policy 3 false [] 2; rights = 127 ∷ replicate 7 0; hours = none };
      lease = record { visibility_nanos = 10; hard_cap_nanos = 25 };
    }

-- both offsets are claimed, at a clock
abbrev claims : ℕ → List Item → List Item
claims now rest = call (ask 0 (claim 0 now)) ∷ call (ask 0 (claim 1 now)) ∷ rest

abbrev checkpointed : List Item → List Item
checkpointed rest = call (begin 0) ∷ call step ∷ call step ∷ rest

-- offsets 0 and 1 are handed out twice each; a restart loses these counts; then they are handed out three times each, with a checkpoint
-- where the threshold asks for it
abbrev pub items : List Item
items =
    checkpointed (claims 0 (claims 10 (call restart
    ∷ checkpointed (claims 20 (claims 30 (checkpointed (claims 40 [])))))))

-- of two offsets six repeated deliveries, 2 × 2 + 1 × 2
abbrev events : List Event
events = run configuration (fresh_world (fresh configuration 9216) 9216) items

pub batch-bound-met : hand_outs is_repeated events
    ≡ (configuration.settings.policy.maxDeliver - 1) * different_offsets events + restarts_in items * configuration.settings.policy.flush_redeliveries
unfolding hand_outs restarts_in offsets_handed_out different different_offsets run next transition consumer.claim checkpoint.begin checkpoint.header_place checkpoint.zeroed_for checkpoint.step bad_area restarts.restart origin from_walk all_attempt_counts encode_cursor decode_cursor encode_attempts decode_attempts block_at write_at header_block body_block is_kind well_formed sound_header sound_body group_at walk_over walk_from header_behind payload is_sealed bits unbits polynomial crc xor
batch-bound-met = refl

-- ten deliveries, where M × D is six
pub more_than_limits : hand_outs is_delivery events ≡ 10
unfolding hand_outs run next transition consumer.claim checkpoint.begin checkpoint.header_place checkpoint.zeroed_for checkpoint.step bad_area restarts.restart origin from_walk all_attempt_counts encode_cursor decode_cursor encode_attempts decode_attempts block_at write_at header_block body_block is_kind well_formed sound_header sound_body group_at walk_over walk_from header_behind payload is_sealed bits unbits polynomial crc xor
more_than_limits = refl

-- ## as many as there are
-- n offsets from o on, each claimed and acked, under the generations from o on
abbrev worked : ℕ → ℕ → List Item → List Item
worked zero o rest = rest
worked (suc n) o rest = call (ask 0 (claim o 0)) ∷ call (ask 0 (ack o o)) ∷ worked n (o + 1) rest

-- the state after a first checkpoint
abbrev ready : State
ready = state_of (cursor 0 []) (starting_at configuration.lease 0) 4096 (next_group_at 2 2) 9216 configuration.settings

pub made-ready : (ends configuration (fresh_world (fresh configuration 9216) 9216) (checkpointed [])).phase ≡ idle ready
unfolding ends next transition checkpoint.begin checkpoint.header_place checkpoint.zeroed_for checkpoint.step all_attempt_counts encode_cursor encode_attempts write_at body_block
made-ready = refl

-- from there on 4,097 claims, which don't look at the journal: the last one takes no generation, for it is refused
pub between-headers-met : taken_in 0 (run configuration (world (idle ready) []) (worked 4097 0 [])) ≡ 4096
unfolding taken_in run next transition consumer.claim consumer.ack ackBounded
between-headers-met = refl
