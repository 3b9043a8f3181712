-- The two snapshots that a state exports are read again as its cursor and its counts, by a start and by the original. Assumes nothing.
use Prim.Native.Nat.{ℕ}
use native.Mathlib.Omega.{arith}
use mathlib.Core.Path.{◌≡◌, refl, sym, ◌∙◌}
use lib.ListN.{get_or}
use Rattle.types.specs.Refusal.{done}
use Rattle.cursor.specs.Snapshot.{decode_cursor}
use Rattle.cursor.proofs.Snapshot.{cursor-back}
use Rattle.attempt.specs.Snapshot.{encode_attempts, decode_attempts}
use Rattle.attempt.proofs.Snapshot.{attempts-back, readers_agree}
use Rattle.lease.specs.Counts.{all_attempt_counts}
use Rattle.consumer.specs.State.{Configuration, State, NextGroup}
use Rattle.consumer.specs.Export.{exported}
use Rattle.consumer.specs.Valid.{Valid}
use Rattle.consumer.proofs.Counts.{counts-rising, counts-few, counts-fit}
use Rattle.starts.specs.Restart.{resumed, from_snapshots}
use Rattle.starts.specs.Exports.{SameWork, ExportImport, ReadByOriginal}
use Rattle.starts.proofs.Counts.{counts-carried}

module _ (s : State) (v : Valid s) where
  cursor-read : decode_cursor (exported s).cursor ≡ done s.cursor
  cursor-read = cursor-back s.cursor v.cursor

  counts-read : decode_attempts (exported s).attempts ≡ done (all_attempt_counts s.table)
  counts-read = attempts-back 1 refl (all_attempt_counts s.table) (counts-rising s v) (counts-fit s v) (counts-few s v)

  -- what is taken in: the very cursor, and all counts carried
  module _ (c : Configuration) (size generation : ℕ) (next : NextGroup) where
    pub taken_in : from_snapshots c size (decode_cursor (exported s).cursor) (decode_attempts (exported s).attempts) generation next
        ≡ done (resumed c size s.cursor (all_attempt_counts s.table) generation next)
    taken_in = rw (cursor-read, counts-read, counts-carried s v)

    same_work : SameWork s (resumed c size s.cursor (all_attempt_counts s.table) generation next)
    unfolding all_attempt_counts
    same_work = record { settled = λ o. refl; counts = λ o. refl }

pub export-import : ExportImport
export-import s v c size generation next = rw (taken_in s v c size generation next) (same_work s v c size generation next)

-- its first byte says version 1
version_1 : (s : State) → get_or (exported s).attempts 0 0 ≡ 1
unfolding encode_attempts
version_1 s = refl

pub read-by_original : ReadByOriginal
read-by_original s v =
    sym (readers_agree (exported s).attempts (λ e. let one = version_1 s in omega arith)) ∙ counts-read s v
