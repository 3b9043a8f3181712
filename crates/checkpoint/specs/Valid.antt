-- What holds of every writing record that a begin and a step give, and of what a step leaves: the invariant that the contract of a
-- step requires.
-- SPEC.md, "Checkpoint".
use Rattle.std.specs.Prelude.{◌+◌, ◌≤◌}
use Rattle.types.specs.Limits.{MAX32}
use Rattle.consumer.specs.Valid.{Valid}
use Rattle.checkpoint.specs.Checkpoint.{bodies, zeros, Writing, Left, going, finished}

-- the state's invariant holds, its group has a number that a header can hold, and no more is written than stands before the header
pub record ValidWriting (w : Writing) : Type 0 where
  pub state : Valid w.state
  pub numbered : w.state.next.number ≤ MAX32
  pub few : w.written ≤ zeros w.state + bodies w.state

-- and of what a step leaves
abbrev pub ValidLeft : Left → Type 0
ValidLeft (going w) = ValidWriting w
ValidLeft (finished s) = Valid s
