-- The settled examples 9 and 10.
-- SPEC.md, "Examples".
use Rattle.std.specs.Prelude.{◌≡◌, refl, false, [], ◌∷◌}
use Rattle.std.proofs.Math.Option.{none}
use Rattle.delivery.specs.Policy.{policy, disposition, Deliver, DeadLetter, effective_nack_delay}

-- limit 3: 3 Deliver, 4 DeadLetter
pub record Example9 : Type 0 where
  pub at-limit : disposition (policy 3 false [] 1) 3 ≡ Deliver
  pub above : disposition (policy 3 false [] 1) 4 ≡ DeadLetter

pub example_9 : Example9
example_9 = record { at-limit = refl; above = refl }

-- backoff 5, 9 and cap 25: attempts 0, 1, 2, 7 give 5, 5, 9, 9
pub record Example10 : Type 0 where
  pub at_0 : effective_nack_delay (policy 3 false (5 ∷ 9 ∷ []) 1) 0 none 25 ≡ 5
  pub at_1 : effective_nack_delay (policy 3 false (5 ∷ 9 ∷ []) 1) 1 none 25 ≡ 5
  pub at_2 : effective_nack_delay (policy 3 false (5 ∷ 9 ∷ []) 1) 2 none 25 ≡ 9
  pub at_7 : effective_nack_delay (policy 3 false (5 ∷ 9 ∷ []) 1) 7 none 25 ≡ 9

pub example_10 : Example10
example_10 = record { at_0 = refl; at_1 = refl; at_2 = refl; at_7 = refl }
