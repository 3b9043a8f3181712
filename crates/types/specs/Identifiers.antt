-- Offsets: the number that each wraps, and the one behind it (types.rs, `checked_next`).
-- SPEC.md, "Numbers".
use Rattle.std.specs.Prelude.{ℕ, ◌+◌, cond, eqb}
use Rattle.std.proofs.Math.Option.{Option, none, some}
use Rattle.types.specs.Limits.{MAX}
use Rattle.types.specs.declared.Offset.{Offset}

abbrev pub offset : ℕ → Offset
offset n = record { 0 = n }

-- the number of an offset
abbrev pub number : Offset → ℕ
number o = o.0

-- the next number, where it is a u64
abbrev pub checked_next : ℕ → Option ℕ
checked_next n = cond (eqb n MAX) none (some (n + 1))
