-- How a consumer begins with what another server had: a cursor snapshot, an attempt snapshot in either version, and a first
-- generation, above all that the other server gave. It reads no journal and writes nothing.
-- SPEC.md, "Import".
use Rattle.std.specs.Prelude.{ℕ, List, []}
use Rattle.types.specs.Refusal.{Result}
use Rattle.types.specs.Table.{checked}
use Rattle.cursor.specs.Cursor.{resume}
use Rattle.cursor.specs.Snapshot.{encode_cursor, decode_cursor}
use Rattle.attempt.specs.Snapshot.{encode_attempts, decode_attempts}
use Rattle.consumer.specs.State.{Configuration, State, next_group_at}
use Rattle.starts.specs.Restart.{start_table, from_snapshots}

-- 1 to 3, 33, 34, 4; then 6 to 12 of the cursor's bytes; then 13 to 19 of the attempts'. Otherwise that cursor and the nonzero counts
-- of offsets that it has not settled; generations begin at the first one, which is also the ceiling; the first group goes to block 0
unfoldable pub import : Configuration → (size first : ℕ) (cursor attempts : List ℕ) → Result State
import c size first cursor attempts =
    checked (start_table c size) (from_snapshots c size (decode_cursor cursor) (decode_attempts attempts) first (next_group_at 1 0))

-- nothing, as snapshots: no offset is settled, and none has a count
abbrev pub no_cursor : List ℕ
no_cursor = encode_cursor (resume 0)

abbrev pub no_attempts : ℕ → List ℕ
no_attempts version = encode_attempts version []
