-- An ack on a cursor where it lies: what it answers, and what the cursor is afterwards.
-- SPEC.md, "Interface".
use Rattle.std.specs.Prelude.{ℕ, ◌≡◌, Bool, true, false}
use Rattle.types.specs.Refusal.{Result, refused, done, numbered}
use Rattle.types.specs.Table.{Answer}
use Rattle.cursor.specs.Cursor.{Cursor}
use Rattle.cursor.specs.Answers.{Updated}
use Rattle.cursor.specs.declared.AckCursor.{AckCursor}

-- an outcome's number: 0 where the ack was new, 1 for a duplicate, and that of a refusal
abbrev pub ack_number : Result Bool → ℕ
ack_number (done true) = 0
ack_number (done false) = 1
ack_number (refused r) = (numbered r).number

-- the number, and the cursor, which where nothing is new is the very one that it was
pub record AckedInPlace (before : AckCursor) (number : ℕ) (after : AckCursor) (right : Answer Bool Cursor) : Type 0 where
  pub told : number ≡ ack_number right.outcome
  pub updated : Updated before right.outcome after right
