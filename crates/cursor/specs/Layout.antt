-- Where each number and each column of a cursor lies among its words, the cursor that they are, and what holds of them. The places are
-- those of layout.rt.
-- SPEC.md, "Cursor".
use Rattle.std.specs.Prelude.{ℕ, ◌+◌, ◌≡◌, List, length}
use Rattle.types.specs.Limits.{RANGES}
use Rattle.words.specs.Columns.{word, column}
use Rattle.cursor.specs.Cursor.{Cursor}
use Rattle.cursor.specs.View.{ack_cursor}
use Rattle.cursor.specs.View as cursor
use Rattle.cursor.specs.declared.AckCursor.{AckCursor}

abbrev pub COMMITTED : ℕ
COMMITTED = 0

abbrev pub RUNS : ℕ
RUNS = 1

abbrev pub STARTS : ℕ
STARTS = 2

abbrev pub ENDS : ℕ
ENDS = STARTS + RANGES

abbrev pub WORDS : ℕ
WORDS = ENDS + RANGES

abbrev pub cursor_in : List ℕ → AckCursor
cursor_in w = ack_cursor (word COMMITTED w) (column STARTS RANGES w) (column ENDS RANGES w) (word RUNS w)

-- the cursor that words show, and what contracts require of words and say of them
abbrev pub view : List ℕ → Cursor
view w = cursor.view (cursor_in w)

pub record Sound (w : List ℕ) : Type 0 where
  pub long : length w ≡ WORDS
  pub cursor : cursor.Sound (cursor_in w)
