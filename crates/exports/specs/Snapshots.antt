-- The snapshots as columns of numbers: ranges as their starts and ends, attempt pairs as their offsets and counts.
-- SPEC.md, "Interface".
use Rattle.std.specs.Prelude.{ℕ, List, [], ◌∷◌, ◌++◌, map, ltb, length, drop}
use Rattle.types.specs.Refusal.{Result, refused, done, OutTooShort}
use Rattle.types.specs.Table.{Row, ◌⇒◌, Answer, answer, guarded}
use Rattle.types.specs.Keyed.{Entry}
use Rattle.raw.specs.Bytes.{write}
use Rattle.cursor.specs.Cursor.{Cursor, resume_with_ahead}
use Rattle.cursor.specs.Snapshot.{encode_cursor, decode_cursor}
use Rattle.cursor.specs.declared.Range.{Range}
use Rattle.attempt.specs.Snapshot.{decode_attempts}

-- two lent columns
pub record Columns : Type 0 where
  pub left : List ℕ
  pub right : List ℕ

abbrev pub columns : List ℕ → List ℕ → Columns
columns l r = record { left = l; right = r }

-- the fields of ranges and of pairs
abbrev pub starts_of : List Range → List ℕ
starts_of = map (λ r. r.start)

abbrev pub ends_of : List Range → List ℕ
ends_of = map (λ r. r.end)

abbrev pub keys_of : List (Entry ℕ) → List ℕ
keys_of = map (λ e. e.key)

abbrev pub values_of : List (Entry ℕ) → List ℕ
values_of = map (λ e. e.value)

-- a column of numbers at the front of lent memory, whose other places stay
abbrev pub front : List ℕ → List ℕ → List ℕ
front column lent = column ++ drop (length column) lent

-- n numbers don't fit into one of two columns of these lengths
abbrev pub room_rows : (n left right : ℕ) → List Row
room_rows n left right = ltb left n ⇒ OutTooShort ∷ ltb right n ⇒ OutTooShort ∷ []

-- two columns at the front of lent ones; 20 where one of these is too short
abbrev pub fill : List ℕ → Columns → Columns → Answer (List ℕ) Columns
fill values new lent =
    guarded (ltb (length lent.left) (length new.left) ⇒ OutTooShort ∷ ltb (length lent.right) (length new.right) ⇒ OutTooShort ∷ []) lent
    (answer (done values) (columns (front new.left lent.left) (front new.right lent.right)))

-- the cursor of a committed offset and ranges, written from a place on: 10 to 12, then 20
abbrev pub encode_resumed : Result Cursor → ℕ → List ℕ → Answer ℕ (List ℕ)
encode_resumed (refused r) at out = answer (refused r) out
encode_resumed (done c) at out = write at (encode_cursor c) out

abbrev pub encode_ranges : ℕ → List Range → ℕ → List ℕ → Answer ℕ (List ℕ)
encode_ranges committed ahead at out = encode_resumed (resume_with_ahead committed ahead) at out

-- a cursor's ranges as columns, its committed offset and their number as values
abbrev pub list_cursor : Result Cursor → Columns → Answer (List ℕ) Columns
list_cursor (refused r) lent = answer (refused r) lent
list_cursor (done c) lent =
    fill (c.committed ∷ length c.ahead ∷ []) (columns (starts_of c.ahead) (ends_of c.ahead)) lent

-- 6 to 12, then 20
abbrev pub decode_ranges : List ℕ → Columns → Answer (List ℕ) Columns
decode_ranges bytes lent = list_cursor (decode_cursor bytes) lent

-- attempt pairs as columns, their number as value
abbrev pub list_pairs : Result (List (Entry ℕ)) → Columns → Answer (List ℕ) Columns
list_pairs (refused r) lent = answer (refused r) lent
list_pairs (done l) lent = fill (length l ∷ []) (columns (keys_of l) (values_of l)) lent

-- 13 to 19, then 20
abbrev pub decode_pairs : List ℕ → Columns → Answer (List ℕ) Columns
decode_pairs bytes lent = list_pairs (decode_attempts bytes) lent
