-- What the answer of a look-up says of the lease and of the count. Assumes nothing.
use Prim.Native.Nat.{ℕ}
use mathlib.Core.Path.{◌≡◌, sym, ap, ◌∙◌}
use Rattle.std.specs.Prelude.{Some, None}
use Rattle.std.specs.Prelude as std
use mathlib.Core.Option.{Option, none, some}
use Rattle.types.specs.Refusal.{done}
use Rattle.lease.specs.Answers.{attempts_of}
use Rattle.lease.specs.Lookup.{lease_in, lease_values, lease_at}
use Rattle.lease.specs.declared.Lease.{Lease}

-- ## a lease
-- its four values are what the question answers
pub told-lease : (r : std.Option Lease) {x : Option Lease} → lease_in r ≡ x → lease_at r ≡ done (lease_values x)
told-lease r p = ap (λ (y : Option Lease). done (lease_values y)) p

-- ## a count
module _ (x : Option ℕ) {r : std.Option ℕ} (p : attempts_of r ≡ x) where
  pub found-count : {n : ℕ} → r ≡ Some n → x ≡ some n
  found-count e = sym p ∙ ap attempts_of e

  pub no-count : r ≡ None → x ≡ none
  no-count e = sym p ∙ ap attempts_of e
