-- What a `?` hands on is the very refusal that it met. Assumes nothing.
use Rattle.std.specs.Prelude.{◌≡◌, Result, Ok, Err, IsErrAnd}
use mathlib.Core.Path.{ap}

pub err_is : {T E : Type 0} → (r : Result T E) (d : E) → IsErrAnd r (λ y. y ≡ d) → r ≡ Err d
err_is (Ok x) d h = absurd h
err_is (Err y) d h = ap Err h
