-- A list on a disk that keeps no order, computed. What is seen of it; that it meets demand 3's bound; that an Ack with
-- a header after it is found again by a restart, and that an accepted Ack shows until then.
-- SPEC.md, "Disk".
use Rattle.std.specs.Prelude.{ℕ, ◌+◌, ◌*◌, ◌≡◌, refl, Bool, true, false, List, [], ◌∷◌, ◌++◌, replicate}
use Rattle.std.proofs.Math.Bool.{xor}
use Rattle.types.specs.Refusal.{done}
use Rattle.crc.specs.Crc32c.{bits, unbits, polynomial, crc}
use Rattle.crc.specs.Seal.{is_sealed}
use Rattle.cursor.specs.Cursor.{cursor, ackBounded}
use Rattle.cursor.specs.Snapshot.{encode_cursor, decode_cursor}
use Rattle.attempt.specs.Snapshot.{encode_attempts, decode_attempts}
use Rattle.delivery.specs.Policy.{Deliver}
use Rattle.lease.specs.Counts.{all_attempt_counts}
use Rattle.journal.specs.Area.{block_at, write_at}
use Rattle.journal.specs.Blocks.{header_block, body_block}
use Rattle.journal.specs.Sound.{is_kind, well_formed, sound_header, sound_body}
use Rattle.journal.specs.Walks.{group_at, walk_over, walk_from, header_behind, payload}
use Rattle.consumer.specs.State.{State, next_group_at, bad_area}
use Rattle.consumer.specs.Calls as consumer
use Rattle.checkpoint.specs.Checkpoint as checkpoint
use Rattle.starts.specs.Restart as restarts
use Rattle.starts.specs.Restart.{resumed, fresh, origin, from_walk}
use Rattle.examples.specs.Consumer.{configuration}
use Rattle.machine.specs.Calls.{claim, ack, ask, begin, step, restart, Event, claimed, acked, begun, stepped, restarted, failed}
use Rattle.machine.specs.Transitions.{transition}
use Rattle.power_cut.specs.Cut.{torn}
use Rattle.crash_safety.specs.Demand3.{delivers, hand_outs, restarts_seen, limit_of, threshold_of}
use Rattle.crash_safety.specs.ForGood.{SettledSince, WrittenSince}
use Rattle.crash_safety.specs.Disk.{written, has_header, answers, survivors}
use Rattle.crash_safety.specs.Unordered.{DiskItem, does, syncs, fails, next_on, run_on, fresh_disk, restarts_on}

-- worker 0 makes a checkpoint with two syncs
abbrev checkpointed : List DiskItem → List DiskItem
checkpointed rest = does (begin 0) ∷ does step ∷ syncs ∷ does step ∷ syncs ∷ rest

abbrev claims : ℕ → ℕ → DiskItem
claims o now = does (ask 0 (claim o now))

-- M 2, N 1. A checkpoint; offset 0 is handed out and acked, and a checkpoint keeps that. Offset 1 is handed out twice; the power fails with the
-- body of the next checkpoint pending, and tears it. A restart, a checkpoint, and offset 1 is handed out twice again
abbrev pub items : List DiskItem
items =
    checkpointed (claims 0 0 ∷ does (ask 0 (ack 0 0))
    ∷ checkpointed (claims 1 0 ∷ claims 1 10
    ∷ does (begin 0) ∷ does step ∷ fails (torn (replicate 512 0) ∷ []) ∷ does restart
    ∷ checkpointed (claims 1 20 ∷ claims 1 30 ∷ [])))

-- ## what is seen
-- each checkpoint has two blocks, and a sync comes after both
abbrev wrote : ℕ → Bool → Event
wrote i last = stepped (done (record { block = i; last = last }))

abbrev hands : ℕ → ℕ → ℕ → ℕ → Event
hands o now g n = claimed o now (done (record { offset = o; generation = g; deliveries = n; destination = Deliver }))

-- offset 0 settled, no count of offset 1, and the ceiling of the second checkpoint
abbrev found : State
found = resumed configuration 9216 (cursor 1 []) [] 4097 (next_group_at 3 4)

abbrev first : List Event
first = begun (done 2) ∷ wrote 1 false ∷ wrote 0 true ∷ hands 0 0 0 1 ∷ []

abbrev then : List Event
then =
    hands 1 0 1 1 ∷ hands 1 10 2 2
    ∷ begun (done 2) ∷ failed false ∷ restarted (done found)
    ∷ begun (done 2) ∷ wrote 5 false ∷ wrote 4 true ∷ hands 1 20 4097 1 ∷ hands 1 30 4098 2 ∷ []

abbrev pub events : List Event
events = first ++ (acked 0 0 (done tt) ∷ begun (done 2) ∷ wrote 3 false ∷ wrote 2 true ∷ then)

pub seen : run_on configuration (fresh_disk (fresh configuration 9216) 9216) items ≡ events
unfolding run_on next_on written has_header answers survivors transition consumer.claim consumer.ack ackBounded checkpoint.begin checkpoint.header_place checkpoint.zeroed_for checkpoint.step bad_area restarts.restart origin from_walk all_attempt_counts encode_cursor decode_cursor encode_attempts decode_attempts block_at write_at header_block body_block is_kind well_formed sound_header sound_body group_at walk_over walk_from header_behind payload is_sealed bits unbits polynomial crc xor
seen = refl

-- ## what it shows
-- the bound is met on the disk too
pub bound-met : hand_outs (delivers 1) events ≡ limit_of configuration + restarts_on items * (threshold_of configuration + 1)
unfolding hand_outs restarts_on
bound-met = refl

-- the premise of `shows-on-disk`: an Ack, and no restart after it
pub settled-since : SettledSince 0 (first ++ (acked 0 0 (done tt) ∷ begun (done 2) ∷ wrote 3 false ∷ []))
unfolding restarts_seen
settled-since =
    record {
      before = first;
      by = acked 0 0 (done tt);
      since = begun (done 2) ∷ wrote 3 false ∷ [];
      parts = refl;
      named = refl;
      no-restart = refl;
    }

-- and that of `written-on-disk`: a header after it, and whatever comes then
pub written-since : WrittenSince 0 events
written-since =
    record {
      before = first ++ (acked 0 0 (done tt) ∷ begun (done 2) ∷ wrote 3 false ∷ []);
      header = wrote 2 true;
      since = then;
      parts = refl;
      named = settled-since;
      written = refl;
    }
