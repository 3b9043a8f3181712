-- The order of refusals for every input, where a case would take long to compute: what comes after the tests of a snapshot's frame,
-- of a start and of a journal's first group. Assumes nothing.
use Prim.Native.Nat.{ℕ, suc}
use mathlib.Core.Path.{◌≡◌}
use mathlib.Core.List.{List}
use mathlib.Core.Option.{none}
use lib.ListN.{length}
use Rattle.types.specs.Refusal.{Refusal, refused, done}
use Rattle.types.specs.Table.{first, checked}
use Rattle.types.proofs.Table.{first_none_before, checked_refused, checked-passed, checked-done}
use Rattle.cursor.specs.Cursor.{Cursor, resume_with_ahead, resume_table}
use Rattle.cursor.specs.Snapshot.{decode_cursor, cursor_in}
use Rattle.cursor.specs.Snapshot as cursor
use Rattle.attempt.specs.Snapshot.{decode_attempts, pairs_in, pairs_table}
use Rattle.attempt.specs.Snapshot as attempt
use Rattle.journal.specs.Walks.{group_at, group, unsound, walk_over, walk_from, walk, damaged}
use Rattle.consumer.specs.State.{Configuration, State, next_group_at}
use Rattle.starts.specs.Restart.{start_table, start, fresh, from_snapshots, walk_of, from_walk, restart}
use Rattle.starts.specs.Import.{import}

-- after 6 to 9 the ranges are tested as those of a resumption: 10 and 11 range by range, then 12
pub cursor-after_its_frame : (b : List ℕ) → first (cursor.frame_table b) ≡ none
    → decode_cursor b ≡ resume_with_ahead (cursor_in b).committed (cursor_in b).ahead
unfolding decode_cursor resume_with_ahead
cursor-after_its_frame b e =
    rw (first_none_before (cursor.frame_table b) (resume_table (cursor_in b).committed (cursor_in b).ahead) e)

-- after 13 to 17 come 18 for all the pairs in the bytes, then 19
pub attempts-after_their_frame : (b : List ℕ) → first (attempt.frame_table b) ≡ none
    → decode_attempts b ≡ checked (pairs_table (pairs_in b)) (done (pairs_in b))
unfolding decode_attempts
attempts-after_their_frame b e = rw (first_none_before (attempt.frame_table b) (pairs_table (pairs_in b)) e)

-- 1 to 4 of a restart are those of a start, and come before anything that is in the area
pub restart-refused_as_a-start : (c : Configuration) (a : List ℕ) (r : Refusal) → start c (length a) ≡ refused r → restart c a ≡ refused r
unfolding start restart
restart-refused_as_a-start c a r e =
    checked_refused (start_table c (length a)) (fresh c (length a)) (from_walk c a (walk_of a)) r e

-- 5 is met in every group on the walk, here in the second of a journal with at least two blocks
pub walk-second-group-damaged : (a : List ℕ) (n : ℕ) → group_at a (suc (suc n)) 1 0 ≡ group 2 → group_at a (suc (suc n)) 2 2 ≡ unsound 3
    → walk a (suc (suc n)) 1 0 ≡ damaged 3
unfolding walk_from walk_over
walk-second-group-damaged a n e d = rw (e, d)

-- 1 to 4 of an import are those of a start too, and come before anything that is in the bytes
pub import-refused_as_a-start : (c : Configuration) (size first : ℕ) (cursor attempts : List ℕ) (r : Refusal) → start c size ≡ refused r
    → import c size first cursor attempts ≡ refused r
unfolding start import
import-refused_as_a-start c size g cursor attempts r e =
    checked_refused (start_table c size) (fresh c size) (from_snapshots c size (decode_cursor cursor) (decode_attempts attempts) g (next_group_at 1 0)) r e

-- then 6 to 12, whatever the attempts' bytes are; then 13 to 19
pub import-cursor-first : (c : Configuration) (size first : ℕ) (cursor attempts : List ℕ) (s : State) (r : Refusal) → start c size ≡ done s
    → decode_cursor cursor ≡ refused r → import c size first cursor attempts ≡ refused r
unfolding start import
import-cursor-first c size g cursor attempts s r e d =
    rw (checked-passed (start_table c size) (from_snapshots c size (decode_cursor cursor) (decode_attempts attempts) g (next_group_at 1 0)) (checked-done (start_table c size) (fresh c size) s e).0, d)

pub import-attempts-after : (c : Configuration) (size first : ℕ) (cursor attempts : List ℕ) (s : State) (k : Cursor) (r : Refusal) → start c size ≡ done s
    → decode_cursor cursor ≡ done k → decode_attempts attempts ≡ refused r → import c size first cursor attempts ≡ refused r
unfolding start import
import-attempts-after c size g cursor attempts s k r e d f =
    rw (checked-passed (start_table c size) (from_snapshots c size (decode_cursor cursor) (decode_attempts attempts) g (next_group_at 1 0)) (checked-done (start_table c size) (fresh c size) s e).0, d, f)
