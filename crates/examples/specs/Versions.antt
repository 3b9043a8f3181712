-- Two journals that differ in the versions of their groups, computed. Each has two groups, the first in one version and
-- the second in the other: the premise of `versions-free-restart` is met, and what a restart finds on the first.
-- SPEC.md, "Attempt snapshot".
use Rattle.std.specs.Prelude.{ℕ, ◌≡◌, refl, List, [], ◌∷◌, ◌++◌, length, replicate}
use Rattle.std.proofs.Math.Bool.{xor}
use Rattle.types.specs.Limits.{MAX}
use Rattle.types.specs.Keyed.{entry}
use Rattle.types.specs.Refusal.{done}
use Rattle.crc.specs.Crc32c.{bits, unbits, polynomial, crc}
use Rattle.crc.specs.Seal.{is_sealed}
use Rattle.cursor.specs.Cursor.{cursor}
use Rattle.cursor.specs.Snapshot.{encode_cursor, decode_cursor}
use Rattle.attempt.specs.Snapshot.{encode_attempts, decode_attempts}
use Rattle.journal.specs.Area.{block_at}
use Rattle.journal.specs.Blocks.{header_block, body_block}
use Rattle.journal.specs.Sound.{is_kind, well_formed, sound_header, sound_body}
use Rattle.journal.specs.Walks.{group_at, walk_over, walk_from, header_behind, payload}
use Rattle.consumer.specs.State.{next_group_at, bad_area}
use Rattle.starts.specs.Restart.{resumed, origin, from_walk, restart}
use Rattle.starts.specs.Versions.{Source, attempts_in, payload_in}
use Rattle.examples.specs.Consumer.{configuration}

-- the groups: counts that fall, and counts of a settled offset and of MAX
abbrev pub first : Source
first = record { number = 1; place = 0; ceiling = 7; cursor = encode_cursor (cursor 5 []); counts = entry 9 1 ∷ entry 6 2 ∷ [] }

abbrev pub second : Source
second = record { number = 2; place = 2; ceiling = 4103; cursor = encode_cursor (cursor 6 []); counts = entry 3 2 ∷ entry 9 1 ∷ entry MAX 4 ∷ [] }

-- a group of one body in a version, and a journal of 18 blocks with both
abbrev pub group_in : ℕ → Source → List ℕ
group_in v g = header_block g.number g.ceiling (length g.cursor) (length (attempts_in v g)) ++ body_block g.number 1 (payload_in v g)

abbrev pub groups : ℕ → ℕ → List ℕ
groups v w = group_in v first ++ group_in w second

abbrev pub journal : ℕ → ℕ → List ℕ
journal v w = groups v w ++ replicate 7168 0

pub found_in_either : restart configuration (journal 1 2) ≡ done (resumed configuration 9216 (cursor 6 []) (entry 9 1 ∷ entry MAX 4 ∷ []) 4103 (next_group_at 3 4))
unfolding bad_area restart origin from_walk encode_cursor decode_cursor encode_attempts decode_attempts block_at header_block body_block is_kind well_formed sound_header sound_body group_at walk_over walk_from header_behind payload is_sealed bits unbits polynomial crc xor
found_in_either = refl
