-- A list with opening hours, computed. Only Monday's first half hour is open. Demand 3 is over every configuration, so
-- over this one, and in its list things happen: an offset is handed out, refused outside the hours, put off to the next
-- opening and handed out again.
-- SPEC.md, "Hours".
use Rattle.std.specs.Prelude.{ℕ, ◌-◌, ◌≡◌, refl, true, false, List, [], ◌∷◌, replicate}
use Rattle.std.proofs.Math.Option.{some}
use Rattle.types.specs.Refusal.{refused, done, Closed}
use Rattle.cursor.specs.Cursor.{cursor, ackBounded}
use Rattle.cursor.specs.Snapshot.{encode_cursor}
use Rattle.attempt.specs.Snapshot.{encode_attempts}
use Rattle.delivery.specs.Policy.{policy, Deliver}
use Rattle.hours.specs.Hours.{week_of, HALF_HOUR, WEEK, open_half, firstOpen, opening}
use Rattle.lease.specs.Counts.{all_attempt_counts}
use Rattle.lease.specs.State.{starting_at}
use Rattle.consumer.specs.State.{Configuration, state_of, next_group_at, bad_area}
use Rattle.consumer.specs.Calls as consumer
use Rattle.consumer.specs.Calls.{HandOut}
use Rattle.journal.specs.Area.{write_at}
use Rattle.journal.specs.Blocks.{body_block}
use Rattle.checkpoint.specs.Checkpoint as checkpoint
use Rattle.starts.specs.Restart.{start, fresh}
use Rattle.machine.specs.Calls.{claim, ack, nack, ask, begin, step, claimed, acked, nacked, begun, stepped}
use Rattle.machine.specs.Transitions.{idle, transition}
use Rattle.crash_safety.specs.Runs.{Item, call, World, world, next, run, fresh_world}

abbrev configuration : Configuration
configuration =
    record {
      settings = record { policy = policy 2 false [] 2; rights = 127 ∷ replicate 7 0; hours = some (week_of (1 ∷ replicate 6 0) 0) };
      lease = record { visibility_nanos = 10; hard_cap_nanos = 25 };
    }

-- demand 3's premise: such a consumer starts
pub starts-with-hours : start configuration 9216 ≡ done (fresh configuration 9216)
unfolding start bad_area firstOpen open_half
starts-with-hours = refl

-- after a checkpoint
abbrev ready : World
ready =
    world (idle (state_of (cursor 0 []) (starting_at configuration.lease 0) 4096 (next_group_at 2 2) 9216 configuration.settings)) []

abbrev hand_out : ℕ → ℕ → HandOut
hand_out g n = record { offset = 0; generation = g; deliveries = n; destination = Deliver }

-- the nack asks for more than the cap allows, and its capped delay ends at the end of the half hour
abbrev items : List Item
items =
    call (ask 0 (claim 0 0)) ∷ call (ask 0 (claim 0 HALF_HOUR)) ∷ call (ask 0 (nack 0 0 (HALF_HOUR - 25) (some WEEK)))
    ∷ call (ask 0 (claim 0 (WEEK - 1))) ∷ call (ask 0 (claim 0 WEEK)) ∷ call (ask 0 (ack 0 2)) ∷ []

pub answered : run configuration ready items
    ≡ claimed 0 0 (done (hand_out 0 1)) ∷ claimed 0 HALF_HOUR (refused (Closed WEEK)) ∷ nacked 0 0 (HALF_HOUR - 25) (some WEEK) (done WEEK)
    ∷ claimed 0 (WEEK - 1) (refused (Closed WEEK)) ∷ claimed 0 WEEK (done (hand_out 2 2)) ∷ acked 0 2 (done tt) ∷ []
unfolding run next transition consumer.claim consumer.ack consumer.nack ackBounded opening firstOpen open_half
answered = refl

-- ## the same from a fresh consumer, behind its first checkpoint
abbrev items_from_fresh : List Item
items_from_fresh =
    call (begin 0) ∷ call step ∷ call step ∷ items

pub answered_from_fresh : run configuration (fresh_world (fresh configuration 9216) 9216) items_from_fresh
    ≡ begun (done 2) ∷ stepped (done (record { block = 1; last = false })) ∷ stepped (done (record { block = 0; last = true }))
    ∷ claimed 0 0 (done (hand_out 0 1)) ∷ claimed 0 HALF_HOUR (refused (Closed WEEK)) ∷ nacked 0 0 (HALF_HOUR - 25) (some WEEK) (done WEEK)
    ∷ claimed 0 (WEEK - 1) (refused (Closed WEEK)) ∷ claimed 0 WEEK (done (hand_out 2 2)) ∷ acked 0 2 (done tt) ∷ []
unfolding run next transition consumer.claim consumer.ack consumer.nack ackBounded opening firstOpen open_half checkpoint.begin checkpoint.header_place checkpoint.zeroed_for checkpoint.step all_attempt_counts encode_cursor encode_attempts write_at body_block
answered_from_fresh = refl
