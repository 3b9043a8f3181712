-- What the code's hours and its answers stand for.
-- SPEC.md, "Hours".
use Rattle.std.specs.Prelude.{ℕ, cond, Option}
use Rattle.std.proofs.Math.Option as math
use Rattle.std.proofs.Math.Option.{none, some}
use Rattle.types.specs.Refused.{option_of}
use Rattle.hours.specs.Hours.{Week, week_of, isOpen, next_opening}
use Rattle.hours.specs.declared.Hours.{Hours}

-- the hours, where some are given
abbrev pub view : Hours → math.Option Week
view h = cond h.given (some (week_of h.days h.shift)) none

-- nothing where it is open at a clock, else the clock of the next opening
abbrev pub closed_until : math.Option Week → ℕ → math.Option ℕ
closed_until h now = cond (isOpen h now) none (some (next_opening h now))

-- the same of the code's answer
abbrev pub opening_of : Option ℕ → math.Option ℕ
opening_of = option_of (λ n. n)
