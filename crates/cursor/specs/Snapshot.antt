-- The cursor snapshot: version 1, committed, the ranges as two u64 each, CRC32C of all
-- before it; 13 + 16 bytes for each range; and refusals 6 to 12.
-- SPEC.md, "Cursor snapshot".
use Rattle.std.specs.Prelude.{ℕ, zero, suc, ◌+◌, ◌-◌, ◌/◌, ◌%◌, not, List, [], ◌∷◌, ◌++◌, ltb, eqb, length, get_or}
use Rattle.types.specs.Refusal.{Result, done, CursorTruncated, CursorBadLength, CursorUnsupportedVersion, CursorBadCrc}
use Rattle.types.specs.Table.{Row, ◌⇒◌, checked}
use Rattle.raw.specs.Bytes.{le, number_at}
use Rattle.crc.specs.Seal.{sealed, is_sealed}
use Rattle.cursor.specs.Ranges.{range}
use Rattle.cursor.specs.Cursor.{Cursor, cursor, resume_table}
use Rattle.cursor.specs.declared.Range.{Range}

-- the bytes of a range, and of ranges in their order
abbrev pub range_bytes : Range → List ℕ
range_bytes r = le 8 r.start ++ le 8 r.end

abbrev pub ranges_bytes : List Range → List ℕ
ranges_bytes [] = []
ranges_bytes (r ∷ rs) = range_bytes r ++ ranges_bytes rs

-- a snapshot without its check, and whole
abbrev pub body_bytes : Cursor → List ℕ
body_bytes c = 1 ∷ (le 8 c.committed ++ ranges_bytes c.ahead)

unfoldable pub encode_cursor : Cursor → List ℕ
encode_cursor c = sealed (body_bytes c)

-- n ranges from a place of the bytes on, 16 bytes each
abbrev pub read_ranges : ℕ → ℕ → List ℕ → List Range
read_ranges zero pos bytes = []
read_ranges (suc n) pos bytes = range (number_at 8 pos bytes) (number_at 8 (pos + 8) bytes) ∷ read_ranges n (pos + 16) bytes

-- n numbers from a place of the bytes on, each 16 bytes behind the one before: the starts, or the ends, of ranges
abbrev pub column_from : ℕ → ℕ → List ℕ → List ℕ
column_from zero pos bytes = []
column_from (suc n) pos bytes = number_at 8 pos bytes ∷ column_from n (pos + 16) bytes

-- the number of ranges by the length of the bytes, and the cursor in them
abbrev pub range_count : List ℕ → ℕ
range_count bytes = (length bytes - 13) / 16

abbrev pub cursor_in : List ℕ → Cursor
cursor_in bytes = cursor (number_at 8 1 bytes) (read_ranges (range_count bytes) 9 bytes)

-- 6 to 9
abbrev pub frame_table : List ℕ → List Row
frame_table bytes =
    ltb (length bytes) 13 ⇒ CursorTruncated
    ∷ not (eqb ((length bytes - 13) % 16) 0) ⇒ CursorBadLength (length bytes)
    ∷ not (eqb (get_or bytes 0 0) 1) ⇒ CursorUnsupportedVersion (get_or bytes 0 0)
    ∷ not (is_sealed bytes) ⇒ CursorBadCrc
    ∷ []

-- then 10 and 11 range by range over all the bytes, then 12
abbrev pub decode_table : List ℕ → List Row
decode_table bytes = frame_table bytes ++ resume_table (cursor_in bytes).committed (cursor_in bytes).ahead

-- the cursor that bytes hold
unfoldable pub decode_cursor : List ℕ → Result Cursor
decode_cursor bytes = checked (decode_table bytes) (done (cursor_in bytes))
