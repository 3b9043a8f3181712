-- The answer of a start has no values, whatever state stands beside it. Assumes nothing.
use mathlib.Core.Path.{◌≡◌, refl}
use Rattle.std.specs.Prelude.{Ok, Err}
use Rattle.std.specs.Prelude as std
use Rattle.types.specs.Refusal.{answered}
use Rattle.types.specs.Refused.{as_is}
use Rattle.types.specs.declared.refusals.Refusal.{Refusal}
use Rattle.consumer.specs.State.{State}
use Rattle.starts.specs.Starting.{start_of}
use Rattle.answers.specs.Numbers.{numbers_of, no_values}

pub start-numbers : (a : std.Result (Unit {0}) Refusal) (s : State) → numbers_of (answered no_values (as_is a)) ≡ numbers_of (answered no_values (start_of a s))
start-numbers (Ok u) s = refl
start-numbers (Err f) s = refl
