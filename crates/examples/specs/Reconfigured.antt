-- A list with another configuration at a restart, computed. Its limit, its threshold and its rights hold from then on.
-- SPEC.md, "Bounds".
use Rattle.std.specs.Prelude.{ℕ, ◌≡◌, refl, true, false, List, [], ◌∷◌, replicate}
use Rattle.std.proofs.Math.Bool.{xor}
use Rattle.std.proofs.Math.Option.{none}
use Rattle.types.specs.Limits.{MAX}
use Rattle.types.specs.Keyed.{entry}
use Rattle.types.specs.Refusal.{refused, done, NotPermitted}
use Rattle.crc.specs.Crc32c.{bits, unbits, polynomial, crc}
use Rattle.crc.specs.Seal.{is_sealed}
use Rattle.cursor.specs.Cursor.{cursor}
use Rattle.cursor.specs.Snapshot.{encode_cursor, decode_cursor}
use Rattle.attempt.specs.Snapshot.{encode_attempts, decode_attempts}
use Rattle.delivery.specs.Policy.{policy, Deliver}
use Rattle.lease.specs.Counts.{all_attempt_counts}
use Rattle.journal.specs.Area.{block_at, write_at}
use Rattle.journal.specs.Blocks.{header_block, body_block}
use Rattle.journal.specs.Sound.{is_kind, well_formed, sound_header, sound_body}
use Rattle.journal.specs.Walks.{group_at, walk_over, walk_from, header_behind, payload}
use Rattle.consumer.specs.State.{Configuration, State, next_group_at, bad_area}
use Rattle.consumer.specs.Calls as consumer
use Rattle.checkpoint.specs.Checkpoint as checkpoint
use Rattle.starts.specs.Restart as restarts
use Rattle.starts.specs.Restart.{resumed, origin, from_walk}
use Rattle.examples.specs.Consumer.{configuration, in_version}
use Rattle.machine.specs.Calls.{claim, ask, begin, step, restart, Event, claimed, begun, stepped, restarted}
use Rattle.machine.specs.Transitions.{idle, transition}
use Rattle.crash_safety.specs.Disk.{disk, written, has_header, answers}
use Rattle.crash_safety.specs.Unordered.{DiskItem, does, syncs, on_disk, next_on}
use Rattle.crash_safety.specs.Reconfigured.{Handed, run_each}

-- M 3, N 2; worker 1 may do everything, and worker 0 nothing any more
abbrev other : Configuration
other =
    record {
      settings = record { policy = policy 3 false [] 2; rights = 0 ∷ 127 ∷ replicate 6 0; hours = none };
      lease = record { visibility_nanos = 10; hard_cap_nanos = 25 };
    }

-- what a restart finds under either, where offset 9 was handed out once
abbrev found : Configuration → State
found c = resumed c 9216 (cursor 5 []) (entry 9 1 ∷ entry MAX 4 ∷ []) 7 (next_group_at 2 2)

abbrev handed : List DiskItem → List Handed
handed [] = []
handed (i ∷ is) = (other, i) ∷ handed is

-- with M 2 and N 1 the third claim would be a dead letter, and the fourth refused 26
abbrev items : List DiskItem
items =
    does restart ∷ does (ask 0 (claim 9 0)) ∷ does (begin 1) ∷ does step ∷ syncs ∷ does step ∷ syncs
    ∷ does (ask 1 (claim 9 0)) ∷ does (ask 1 (claim 9 10)) ∷ []

abbrev hands : ℕ → ℕ → ℕ → Event
hands now g n = claimed 9 now (done (record { offset = 9; generation = g; deliveries = n; destination = Deliver }))

pub seen : run_each (on_disk (idle (found configuration)) (disk (in_version 2) [])) (handed items)
    ≡ restarted (done (found other)) ∷ claimed 9 0 (refused NotPermitted)
    ∷ begun (done 2) ∷ stepped (done (record { block = 3; last = false })) ∷ stepped (done (record { block = 2; last = true }))
    ∷ hands 0 7 2 ∷ hands 10 8 3 ∷ []
unfolding run_each next_on written has_header answers transition consumer.claim checkpoint.begin checkpoint.header_place checkpoint.zeroed_for checkpoint.step bad_area restarts.restart origin from_walk all_attempt_counts encode_cursor decode_cursor encode_attempts decode_attempts block_at write_at header_block body_block is_kind well_formed sound_header sound_body group_at walk_over walk_from header_behind payload is_sealed bits unbits polynomial crc xor
seen = refl
