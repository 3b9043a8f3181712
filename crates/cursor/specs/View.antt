-- What the code's cursor stands for, and the invariant that every function asks for and gives back.
-- SPEC.md, "Cursor".
use Rattle.std.specs.Prelude.{ℕ, ◌≤◌, ◌≡◌, List, length, take, replicate}
use Rattle.types.specs.Limits.{RANGES}
use Rattle.types.specs.Zipped.{zipped}
use Rattle.cursor.specs.Ranges.{range}
use Rattle.cursor.specs.Cursor.{Cursor, cursor, Valid, resume}
use Rattle.cursor.specs.declared.AckCursor.{AckCursor}

-- the struct of these fields
abbrev pub ack_cursor : ℕ → List ℕ → List ℕ → ℕ → AckCursor
ack_cursor committed starts ends runs = record { committed = committed; starts = starts; ends = ends; runs = runs }

-- the ranges are the first `runs` places of the two columns
abbrev pub view : AckCursor → Cursor
view c = cursor c.committed (zipped range (take c.runs c.starts) (take c.runs c.ends))

pub record Sound (c : AckCursor) : Type 0 where
  pub few : c.runs ≤ RANGES
  pub valid : Valid (view c)

-- the same where the columns are lent: they have their length
pub record Whole (c : AckCursor) : Type 0 where
  pub starts : length c.starts ≡ 128
  pub ends : length c.ends ≡ 128
  pub sound : Sound c

-- the cursor at a committed offset with nothing ahead, all its places zero
abbrev pub empty : ℕ → AckCursor
empty committed = ack_cursor committed (replicate 128 0) (replicate 128 0) 0

pub record Fresh (committed : ℕ) (c : AckCursor) : Type 0 where
  pub literal : c ≡ empty committed
  pub is : view c ≡ resume committed
  pub sound : Sound c
