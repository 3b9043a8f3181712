-- The delivery policy: refusals 1 and 2, dead letters, and the delay of a nack, which the hard cap bounds.
-- SPEC.md, "Delivery".
use Rattle.std.specs.Prelude.{ℕ, ◌-◌, min, max, Bool, cond, not, ◌&&◌, ◌||◌, List, [], ◌∷◌, ltb, eqb, length, get_or}
use Rattle.std.proofs.Math.Option.{Option, none, some}
use Rattle.types.specs.Limits.{MAX32, STEPS}
use Rattle.types.specs.Refusal.{Result, done}
use Rattle.types.specs.Refusal as refusal
use Rattle.types.specs.Table.{Row, ◌⇒◌, checked}

pub record Policy : Type 0 where
  pub maxDeliver : ℕ
  pub allowUnlimited : Bool
  pub backoff : List ℕ
  pub flush_redeliveries : ℕ

abbrev pub policy : ℕ → Bool → List ℕ → ℕ → Policy
policy m u b n = record { maxDeliver = m; allowUnlimited = u; backoff = b; flush_redeliveries = n }

-- the default limit, and the default flush threshold
abbrev pub DEFAULT_MAX_DELIVER : ℕ
DEFAULT_MAX_DELIVER = 5

abbrev pub DEFAULT_ATTEMPTS_FLUSH_REDELIVERIES : ℕ
DEFAULT_ATTEMPTS_FLUSH_REDELIVERIES = 1

-- a limit that no count is above: 0 is none, and counts stay at the largest u32
abbrev pub unlimited : ℕ → Bool
unlimited m = eqb m 0 || eqb m MAX32

abbrev pub policy_table : ℕ → Bool → List ℕ → List Row
policy_table maxDeliver allowUnlimited backoff =
    (unlimited maxDeliver && not allowUnlimited) ⇒ refusal.UnlimitedDeliverNotAllowed
    ∷ ltb STEPS (length backoff) ⇒ refusal.TooManySteps
    ∷ []

-- a policy with the default threshold
abbrev pub new_policy : ℕ → Bool → List ℕ → Result Policy
new_policy maxDeliver allowUnlimited backoff =
    checked (policy_table maxDeliver allowUnlimited backoff)
    (done (policy maxDeliver allowUnlimited backoff DEFAULT_ATTEMPTS_FLUSH_REDELIVERIES))

abbrev pub with_flush_redeliveries : Policy → ℕ → Policy
with_flush_redeliveries p n = policy p.maxDeliver p.allowUnlimited p.backoff n

-- what becomes of a message that is handed out
pub data Destination : Type 0 where
  Deliver : Destination
  DeadLetter : Destination

-- counts above a nonzero limit are dead letters
abbrev pub destination : (limit deliveries : ℕ) → Destination
destination limit deliveries = cond (not (eqb limit 0) && ltb limit deliveries) DeadLetter Deliver

abbrev pub disposition : Policy → ℕ → Destination
disposition p deliveries = destination p.maxDeliver deliveries

-- the entry at max(attempt, 1) − 1, or the last; of an empty list 0
abbrev pub scheduled : List ℕ → ℕ → ℕ
scheduled backoff attempt = get_or backoff (min (max attempt 1 - 1) (length backoff - 1)) 0

abbrev pub nack_backoff : Policy → ℕ → ℕ
nack_backoff p attempt = scheduled p.backoff attempt

-- an explicit delay wins
abbrev pub delayed : List ℕ → ℕ → Option ℕ → ℕ
delayed backoff attempt (some nanos) = nanos
delayed backoff attempt none = scheduled backoff attempt

-- and neither outlasts the hard cap
abbrev pub capped_delay : List ℕ → ℕ → Option ℕ → ℕ → ℕ
capped_delay backoff attempt explicit cap = min (delayed backoff attempt explicit) cap

abbrev pub effective_nack_delay : Policy → ℕ → Option ℕ → ℕ → ℕ
effective_nack_delay p attempt explicit cap = capped_delay p.backoff attempt explicit cap
