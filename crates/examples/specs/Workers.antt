-- A list of several workers, computed. What each refusal for who calls looks like in it, and the list without the
-- refused calls of one of them.
-- SPEC.md, "Rights".
use Rattle.std.specs.Prelude.{ℕ, ◌≡◌, refl, true, false, List, [], ◌∷◌, replicate}
use Rattle.std.proofs.Math.Option.{none}
use Rattle.types.specs.Refusal.{refused, done, UnknownWorker, NotPermitted, ForeignToken}
use Rattle.cursor.specs.Cursor.{cursor, ackBounded}
use Rattle.cursor.specs.Snapshot.{encode_cursor}
use Rattle.attempt.specs.Snapshot.{encode_attempts}
use Rattle.delivery.specs.Policy.{policy, Deliver}
use Rattle.lease.specs.Counts.{all_attempt_counts}
use Rattle.lease.specs.State.{starting_at}
use Rattle.consumer.specs.State.{Configuration, state_of, next_group_at}
use Rattle.consumer.specs.Calls as consumer
use Rattle.consumer.specs.Calls.{HandOut}
use Rattle.consumer.specs.Questions.{Committed}
use Rattle.journal.specs.Area.{write_at}
use Rattle.journal.specs.Blocks.{body_block}
use Rattle.checkpoint.specs.Checkpoint as checkpoint
use Rattle.starts.specs.Restart.{fresh}
use Rattle.machine.specs.Calls.{claim, ack, commit, look, ask, begin, step, claimed, acked, committed, looked, begun, stepped}
use Rattle.machine.specs.Transitions.{idle, transition}
use Rattle.crash_safety.specs.Runs.{Item, call, World, world, next, run, fresh_world}
use Rattle.crash_safety.specs.Workers.{thinned}

-- workers 0 and 1 may do everything, the others nothing
abbrev configuration : Configuration
configuration =
    record {
      settings = record { policy = policy 2 false [] 1; rights = 127 ∷ 127 ∷ replicate 6 0; hours = none };
      lease = record { visibility_nanos = 10; hard_cap_nanos = 25 };
    }

-- after a checkpoint
abbrev ready : World
ready =
    world (idle (state_of (cursor 0 []) (starting_at configuration.lease 0) 4096 (next_group_at 2 2) 9216 configuration.settings)) []

abbrev first : ℕ → ℕ → HandOut
first o g = record { offset = o; generation = g; deliveries = 1; destination = Deliver }

-- worker 1 tries worker 0's token and claims an offset of his own; worker 2 commits, and there is no worker 8
abbrev items : List Item
items =
    call (ask 0 (claim 0 0)) ∷ call (ask 1 (ack 0 0)) ∷ call (ask 1 (claim 1 0))
    ∷ call (ask 2 (commit 9)) ∷ call (ask 8 (look Committed)) ∷ call (ask 0 (ack 0 0)) ∷ []

pub answered : run configuration ready items
    ≡ claimed 0 0 (done (first 0 0)) ∷ acked 0 0 (refused ForeignToken) ∷ claimed 1 0 (done (first 1 1))
    ∷ committed 9 (refused NotPermitted) ∷ looked Committed (refused UnknownWorker) ∷ acked 0 0 (done tt) ∷ []
unfolding run next transition consumer.claim consumer.ack consumer.commit ackBounded
answered = refl

-- without worker 1's refused call
pub left_out : thinned 1 configuration ready items
    ≡ call (ask 0 (claim 0 0)) ∷ call (ask 1 (claim 1 0))
    ∷ call (ask 2 (commit 9)) ∷ call (ask 8 (look Committed)) ∷ call (ask 0 (ack 0 0)) ∷ []
unfolding thinned next transition consumer.claim consumer.ack consumer.commit ackBounded
left_out = refl

-- ## the same from a fresh consumer, behind its first checkpoint
abbrev items_from_fresh : List Item
items_from_fresh =
    call (begin 0) ∷ call step ∷ call step ∷ items

pub answered_from_fresh : run configuration (fresh_world (fresh configuration 9216) 9216) items_from_fresh
    ≡ begun (done 2) ∷ stepped (done (record { block = 1; last = false })) ∷ stepped (done (record { block = 0; last = true }))
    ∷ claimed 0 0 (done (first 0 0)) ∷ acked 0 0 (refused ForeignToken) ∷ claimed 1 0 (done (first 1 1))
    ∷ committed 9 (refused NotPermitted) ∷ looked Committed (refused UnknownWorker) ∷ acked 0 0 (done tt) ∷ []
unfolding run next transition consumer.claim consumer.ack consumer.commit ackBounded checkpoint.begin checkpoint.header_place checkpoint.zeroed_for checkpoint.step all_attempt_counts encode_cursor encode_attempts write_at body_block
answered_from_fresh = refl

-- without worker 1's refused call
pub left_out_from_fresh : thinned 1 configuration (fresh_world (fresh configuration 9216) 9216) items_from_fresh
    ≡ call (begin 0) ∷ call step ∷ call step
    ∷ call (ask 0 (claim 0 0)) ∷ call (ask 1 (claim 1 0))
    ∷ call (ask 2 (commit 9)) ∷ call (ask 8 (look Committed)) ∷ call (ask 0 (ack 0 0)) ∷ []
unfolding thinned next transition consumer.claim consumer.ack consumer.commit ackBounded checkpoint.begin checkpoint.header_place checkpoint.zeroed_for checkpoint.step all_attempt_counts encode_cursor encode_attempts write_at body_block
left_out_from_fresh = refl
