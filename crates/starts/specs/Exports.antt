-- What an export has to give: whoever takes its two snapshots in finds the same settled offsets and the same counts.
-- SPEC.md, "Export".
use Rattle.std.specs.Prelude.{ℕ, ◌≡◌}
use Rattle.types.specs.Refusal.{Result, refused, done}
use Rattle.cursor.specs.Cursor.{settled}
use Rattle.cursor.specs.Snapshot.{decode_cursor}
use Rattle.attempt.specs.Snapshot.{decode_attempts, old_reader}
use Rattle.lease.specs.Counts.{all_attempt_counts}
use Rattle.consumer.specs.State.{Configuration, State, NextGroup}
use Rattle.consumer.specs.Questions.{count_of}
use Rattle.consumer.specs.Export.{exported}
use Rattle.consumer.specs.Valid.{Valid}
use Rattle.starts.specs.Restart.{from_snapshots}

-- each offset is settled in both states or in neither, and was handed out as often
pub record SameWork (s t : State) : Type 0 where
  pub settled : (o : ℕ) → settled t.cursor o ≡ settled s.cursor o
  pub counts : (o : ℕ) → count_of t o ≡ count_of s o

-- what was taken in isn't refused
abbrev pub TakesIn : State → Result State → Type 0
TakesIn s (refused r) = ⊥
TakesIn s (done t) = SameWork s t

-- in whatever configuration and area, from whatever generation on, and wherever the next group goes
abbrev pub ExportImport : Type 0
ExportImport =
    (s : State) → Valid s → (c : Configuration) (size generation : ℕ) (next : NextGroup)
    → TakesIn s (from_snapshots c size (decode_cursor (exported s).cursor) (decode_attempts (exported s).attempts) generation next)

-- and a reader that knows version 1 alone, as the original does, reads the very counts
abbrev pub ReadByOriginal : Type 0
ReadByOriginal = (s : State) → Valid s → old_reader (exported s).attempts ≡ done (all_attempt_counts s.table)
