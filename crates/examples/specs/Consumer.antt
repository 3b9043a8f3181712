-- Settled examples 13 and 14, and restarts on a foreign journal. Computed on the definitions that the contracts cite.
-- SPEC.md, "Examples".
use Rattle.std.specs.Prelude.{ℕ, zero, suc, ◌+◌, ◌≡◌, refl, true, false, List, [], ◌∷◌, ◌++◌, length, replicate}
use Rattle.std.proofs.Math.Bool.{xor}
use Rattle.std.proofs.Math.Option.{none}
use Rattle.types.specs.Limits.{MAX}
use Rattle.types.specs.Keyed.{entry}
use Rattle.types.specs.Refusal.{Result, refused, done, CheckpointDue}
use Rattle.types.specs.Table.{Passed}
use Rattle.crc.specs.Crc32c.{bits, unbits, polynomial, crc}
use Rattle.crc.specs.Seal.{is_sealed}
use Rattle.cursor.specs.Cursor.{cursor}
use Rattle.cursor.specs.Snapshot.{encode_cursor, decode_cursor}
use Rattle.attempt.specs.Snapshot.{encode_attempts, encode_attempts1, encode_attempts2, decode_attempts}
use Rattle.delivery.specs.Policy.{policy, Destination, Deliver, DeadLetter}
use Rattle.hours.specs.Hours.{isOpen}
use Rattle.lease.specs.Counts.{all_attempt_counts}
use Rattle.journal.specs.Area.{block_at, write_at}
use Rattle.journal.specs.Blocks.{header_block, body_block, chunk_of}
use Rattle.journal.specs.Sound.{is_kind, well_formed, sound_header, sound_body}
use Rattle.journal.specs.Walks.{group_at, walk_over, walk_from, header_behind, payload}
use Rattle.consumer.specs.State.{Configuration, State, next_group_at, bad_area}
use Rattle.consumer.specs.Rights.{claiming, bit_of, worker_rows}
use Rattle.consumer.specs.Calls.{HandOut, claim}
use Rattle.checkpoint.specs.Checkpoint.{header_place, zeroed_for, writes, begin, Left, going, finished, Lent, lent, step}
use Rattle.starts.specs.Restart.{resumed, fresh, start, origin, from_walk, restart}
use Rattle.starts.specs.Versions.{Source, attempts_in, payload_in}

-- M 2, N 1, visibility 10, cap 25; worker 0 may do everything
abbrev pub configuration : Configuration
configuration =
    record {
      settings = record { policy = policy 2 false [] 1; rights = 127 ∷ replicate 7 0; hours = none };
      lease = record { visibility_nanos = 10; hard_cap_nanos = 25 };
    }

-- what is made of a result that is no refusal
abbrev pub on_done : {A B : Type 0} → Result A → (A → List B) → List B
on_done (refused r) f = []
on_done (done a) f = f a

-- n steps, and what is made of the state that the last one gives back
abbrev pub step_on : Left → List ℕ → Lent
step_on (going w) a = (step w a).state
step_on (finished s) a = lent (finished s) a

abbrev pub on_state : {B : Type 0} → Left → List ℕ → (State → List ℕ → List B) → List B
on_state (going w) a f = []
on_state (finished s) a f = f s a

abbrev pub steps : {B : Type 0} → ℕ → Left → List ℕ → (State → List ℕ → List B) → List B
steps zero l a f = on_state l a f
steps (suc n) l a f = steps n (step_on l a).left (step_on l a).area f

pub data Act : Type 0 where
  -- begin by worker 0, and a step for each block
  checkpoints : Act
  -- a claim of offset 0 by worker 0 at a clock
  claims : ℕ → Act
  restarts : Act

-- what the claims answer
abbrev pub answers : State → List ℕ → List Act → List (Result HandOut)
answers s a [] = []
answers s a (checkpoints ∷ l) = on_done (begin s 0) (λ w. steps (writes s) (going w) a (λ t b. answers t b l))
answers s a (claims now ∷ l) = (claim s 0 0 now).outcome ∷ answers (claim s 0 0 now).state a l
answers s a (restarts ∷ l) = on_done (restart configuration a) (λ t. answers t a l)

abbrev pub hands_out : ℕ → ℕ → Destination → Result HandOut
hands_out generation deliveries destination =
    done (record { offset = 0; generation = generation; deliveries = deliveries; destination = destination })

-- from a start on a zeroed area of 18 blocks
abbrev pub from_start : List Act → List (Result HandOut)
from_start l = on_done (start configuration 9216) (λ s. answers s (replicate 9216 0) l)

-- fresh consumer, claim 0: refusal 26; whatever its configuration and its area are, at every open clock, to every worker who may claim
pub record Example13 : Type 0 where
  pub started : from_start (claims 0 ∷ []) ≡ refused CheckpointDue ∷ []
  pub always : (c : Configuration) (size w now : ℕ) → Passed (worker_rows c.settings.rights w (bit_of claiming))
      → isOpen c.settings.hours now ≡ true → (claim (fresh c size) w 0 now).outcome ≡ refused CheckpointDue

-- checkpoint; claims of 0 at 0, 10, 20 give Deliver 1, Deliver 2, refusal 26; checkpoint, restart, checkpoint; claim gives
-- DeadLetter 3, generation 4098
abbrev pub acts14 : List Act
acts14 = checkpoints ∷ claims 0 ∷ claims 10 ∷ claims 20 ∷ checkpoints ∷ restarts ∷ checkpoints ∷ claims 30 ∷ []

pub record Example14 : Type 0 where
  pub answered : from_start acts14 ≡ hands_out 0 1 Deliver ∷ hands_out 1 2 Deliver ∷ refused CheckpointDue ∷ hands_out 4098 3 DeadLetter ∷ []

pub example_14 : Example14
unfolding start claim begin header_place zeroed_for step bad_area restart origin from_walk all_attempt_counts encode_cursor decode_cursor encode_attempts decode_attempts block_at write_at header_block body_block is_kind well_formed sound_header sound_body group_at walk_over walk_from header_behind payload is_sealed bits unbits polynomial crc xor
example_14 = record { answered = refl }

-- a foreign journal of 18 blocks and one group, with a count of a settled offset, a zero and a count for MAX: a restart drops, drops and
-- carries them
abbrev two_blocks : List ℕ → List ℕ → List ℕ
two_blocks b d = header_block 1 7 (length b) (length d) ++ body_block 1 1 (b ++ d)

abbrev foreign : List ℕ → List ℕ → List ℕ
foreign b d = two_blocks b d ++ replicate 8192 0

pub foreign-counts : restart configuration (foreign (encode_cursor (cursor 5 [])) (encode_attempts1 (entry 3 2 ∷ entry 6 0 ∷ entry 9 1 ∷ entry MAX 4 ∷ [])))
    ≡ done (resumed configuration 9216 (cursor 5 []) (entry 9 1 ∷ entry MAX 4 ∷ []) 7 (next_group_at 2 2))
unfolding bad_area restart origin from_walk encode_cursor decode_cursor encode_attempts decode_attempts block_at header_block body_block is_kind well_formed sound_header sound_body group_at walk_over walk_from header_behind payload is_sealed bits unbits polynomial crc xor
foreign-counts = refl

-- the same counts in version 2
pub foreign-counts_2 : restart configuration (foreign (encode_cursor (cursor 5 [])) (encode_attempts2 (entry 3 2 ∷ entry 6 0 ∷ entry 9 1 ∷ entry MAX 4 ∷ [])))
    ≡ done (resumed configuration 9216 (cursor 5 []) (entry 9 1 ∷ entry MAX 4 ∷ []) 7 (next_group_at 2 2))
unfolding bad_area restart origin from_walk encode_cursor decode_cursor encode_attempts decode_attempts block_at header_block body_block is_kind well_formed sound_header sound_body group_at walk_over walk_from header_behind payload is_sealed bits unbits polynomial crc xor
foreign-counts_2 = refl

-- ## The two journals differ in the version alone: the premise of `version-free-restart` is met (proofs/Consumer.antt)
abbrev pub source : Source
source =
    record {
      number = 1;
      place = 0;
      ceiling = 7;
      cursor = encode_cursor (cursor 5 []);
      counts = entry 3 2 ∷ entry 6 0 ∷ entry 9 1 ∷ entry MAX 4 ∷ [];
    }

abbrev pub group_in : ℕ → List ℕ
group_in version = two_blocks source.cursor (attempts_in version source)

abbrev pub in_version : ℕ → List ℕ
in_version version = foreign source.cursor (attempts_in version source)

-- their one body
abbrev pub Body : ℕ → ℕ → Type 0
Body version j =
    block_at (in_version version) (source.place + suc j) ≡ body_block source.number (suc j) (chunk_of (suc j) (payload_in version source))
