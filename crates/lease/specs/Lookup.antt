-- The answers of the look-ups for one lease.
-- SPEC.md, "Leases".
use Rattle.std.specs.Prelude.{ℕ, List, [], ◌∷◌, Some, None}
use Rattle.std.specs.Prelude as std
use Rattle.std.proofs.Math.Option.{Option, none, some}
use Rattle.types.specs.Refusal.{Result, done}
use Rattle.types.specs.Refused.{option_of}
use Rattle.lease.specs.Parts.{OwnedAt}
use Rattle.lease.specs.declared.Lease.{Lease}
use Rattle.lease.specs.declared.in_place.Held.{Held}

-- the lease that was found, or none
abbrev pub lease_in : std.Option Lease → Option Lease
lease_in = option_of (λ l. l)

-- the generation, attempt start, deadline and deliveries of a lease, or nothing
abbrev pub lease_values : Option Lease → List ℕ
lease_values none = []
lease_values (some l) = l.generation.0 ∷ l.attempt_start ∷ l.deadline ∷ l.deliveries ∷ []

-- the values of an answer
abbrev pub lease_at : std.Option Lease → Result (List ℕ)
lease_at r = done (lease_values (lease_in r))

-- how often the lease of a token was handed out and the worker who claimed it
abbrev pub count_and_worker : Held → ℕ × ℕ
count_and_worker h = (h.deliveries, h.worker)

-- those, or nothing
abbrev pub hold_in : std.Option Held → Option (ℕ × ℕ)
hold_in = option_of count_and_worker

-- the place of that lease, where there is one
abbrev pub HeldAt : ℕ → ℕ → List ℕ → List ℕ → List ℕ → std.Option Held → Type 0
HeldAt o g ks slots gs (Some h) = OwnedAt o g ks slots gs h.at
HeldAt o g ks slots gs None = Unit {0}
