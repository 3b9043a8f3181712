-- What `replay` keeps from line to line: what is still to be read lies in the buffer, and the session is ready for the next line.
-- SPEC.md, "Programs".
use Rattle.std.specs.Prelude.{ℕ, ◌≤◌}
use Rattle.text.specs.Lines.{Within}
use Rattle.machine.specs.View.{Sound}
use Rattle.replay.specs.declared.State.{State}
use Rattle.replay.specs.declared.session.Session.{Session}

-- the machine is sound, and its journal lies in an area of so many bytes
pub record Ready (n : ℕ) (s : Session) : Type 0 where
  pub machine : Sound s.machine
  pub inside : s.len ≤ n

-- in a buffer and an area of so many bytes
pub record Going (buf area : ℕ) (s : State) : Type 0 where
  pub input : Within buf s.input
  pub session : Ready area s.session
