-- What holds of the input and of the list before and after every line.
-- SPEC.md, "Programs".
use Rattle.std.specs.Prelude.{ℕ, ◌≤◌}
use Rattle.text.specs.Lines.{Within}
use Rattle.modules.specs.declared.Reading.{Reading}

-- the input lies within a buffer of one length, and what was read within a list of another
pub record Going (buf : ℕ) (ops : ℕ) (r : Reading) : Type 0 where
  pub input : Within buf r.input
  pub n : r.n ≤ ops
