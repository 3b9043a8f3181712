-- Cases of the refusals of a delivery configuration, 1 and 2, and of the delay of a nack around the hard cap.
-- SPEC.md, "Delivery".
use Rattle.std.specs.Prelude.{◌-◌, ◌≡◌, refl, true, false, [], ◌∷◌, replicate}
use Rattle.std.proofs.Math.Option.{none, some}
use Rattle.types.specs.Limits.{MAX, MAX32}
use Rattle.types.specs.Refusal.{refused, done, UnlimitedDeliverNotAllowed, TooManySteps}
use Rattle.delivery.specs.Policy.{Policy, new_policy, policy, nack_backoff, effective_nack_delay}

-- 1 for limits 0 and 4294967295 without the opt-in; with it, and for the limits beside them, a policy
pub no-limit : new_policy 0 false [] ≡ refused UnlimitedDeliverNotAllowed
no-limit = refl

pub largest-limit : new_policy MAX32 false [] ≡ refused UnlimitedDeliverNotAllowed
largest-limit = refl

pub no-limit-allowed : new_policy 0 true [] ≡ done (policy 0 true [] 1)
no-limit-allowed = refl

pub largest-limit-allowed : new_policy MAX32 true [] ≡ done (policy MAX32 true [] 1)
largest-limit-allowed = refl

pub limit-of_1 : new_policy 1 false [] ≡ done (policy 1 false [] 1)
limit-of_1 = refl

pub limit-below_the_largest : new_policy (MAX32 - 1) false [] ≡ done (policy (MAX32 - 1) false [] 1)
limit-below_the_largest = refl

-- 1 before 2
pub no-limit-before-steps : new_policy 0 false (replicate 17 5) ≡ refused UnlimitedDeliverNotAllowed
no-limit-before-steps = refl

-- 2 for 17 backoffs, not for 16
pub too_many-steps : new_policy 3 false (replicate 17 5) ≡ refused TooManySteps
too_many-steps = refl

pub as_many-steps_as_fit : new_policy 3 false (replicate 16 5) ≡ done (policy 3 false (replicate 16 5) 1)
as_many-steps_as_fit = refl

-- ## the delay of a nack, with backoffs 24, 25, 26 and cap 25
abbrev around : Policy
around = policy 3 false (24 ∷ 25 ∷ 26 ∷ []) 1

pub scheduled-below_the_cap : effective_nack_delay around 1 none 25 ≡ 24
scheduled-below_the_cap = refl

pub scheduled-at_the_cap : effective_nack_delay around 2 none 25 ≡ 25
scheduled-at_the_cap = refl

pub scheduled-above_the_cap : effective_nack_delay around 3 none 25 ≡ 25
scheduled-above_the_cap = refl

-- the schedule itself knows no cap
pub backoff-above_the_cap : nack_backoff around 3 ≡ 26
backoff-above_the_cap = refl

pub explicit_below_the_cap : effective_nack_delay around 3 (some 24) 25 ≡ 24
explicit_below_the_cap = refl

pub explicit_at_the_cap : effective_nack_delay around 1 (some 25) 25 ≡ 25
explicit_at_the_cap = refl

pub explicit_above_the_cap : effective_nack_delay around 1 (some 26) 25 ≡ 25
explicit_above_the_cap = refl

-- a cap of 0 leaves no delay, and one of MAX every delay
pub cap_of_0 : effective_nack_delay around 1 (some MAX) 0 ≡ 0
cap_of_0 = refl

pub cap_of_the_largest : effective_nack_delay around 1 (some MAX) MAX ≡ MAX
cap_of_the_largest = refl
