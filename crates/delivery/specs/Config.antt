-- How the code's types stand for the policy and for answers, and the parts of the contracts.
-- SPEC.md, "Delivery".
use Rattle.std.specs.Prelude.{ℕ, ◌≤◌, ◌≡◌, Bool, false, List, length, take, replicate, Option, IfOk}
use Rattle.std.specs.Prelude as std
use Rattle.std.proofs.Math.Option as math
use Rattle.types.specs.Refusal.{Result, done}
use Rattle.types.specs.Refused.{result_of, option_of}
use Rattle.types.specs.declared.refusals.Refusal.{Refusal}
use Rattle.delivery.specs.Policy.{Policy, policy, new_policy, with_flush_redeliveries, Destination}
use Rattle.delivery.specs.Policy.{DEFAULT_MAX_DELIVER, DEFAULT_ATTEMPTS_FLUSH_REDELIVERIES}
use Rattle.delivery.specs.Policy as policies
use Rattle.delivery.specs.declared.DeliveryConfig.{DeliveryConfig}
use Rattle.delivery.specs.declared.Disposition.{Disposition}
use Rattle.delivery.specs.declared.Disposition.TheVariants.{Deliver, DeadLetter}

-- the backoffs of a config, and the policy that it is
abbrev pub backoffs : DeliveryConfig → List ℕ
backoffs c = take c.backoff_len c.backoff_nanos

abbrev pub view : DeliveryConfig → Policy
view c = policy c.max_deliver c.allow_unlimited (backoffs c) c.attempts_flush_redeliveries

-- the backoffs lie within the array
pub record Sound (c : DeliveryConfig) : Type 0 where
  pub few : c.backoff_len ≤ 16

-- the same of a lent array, which doesn't show its length by itself
pub record LentBackoffs (nanos : List ℕ) (len : ℕ) : Type 0 where
  pub full : length nanos ≡ 16
  pub few : len ≤ 16

-- making a config: a refusal, or the policy that it is
abbrev pub configured_of : std.Result DeliveryConfig Refusal → Result Policy
configured_of = result_of view

abbrev pub dispositionOf : Disposition → Result Destination
dispositionOf Deliver = done policies.Deliver
dispositionOf DeadLetter = done policies.DeadLetter

-- the delay of a nack: the consumer's own, or none where the schedule's holds
abbrev pub delay_of : Option ℕ → math.Option ℕ
delay_of = option_of (λ n. n)

-- the config of the defaults
abbrev pub defaults : DeliveryConfig
defaults = record {
  max_deliver = DEFAULT_MAX_DELIVER;
  allow_unlimited = false;
  backoff_nanos = replicate 16 0;
  backoff_len = 0;
  attempts_flush_redeliveries = DEFAULT_ATTEMPTS_FLUSH_REDELIVERIES;
}

pub record ConfiguredIs (maxDeliver : ℕ) (allowUnlimited : Bool) (backoff : List ℕ) (r : std.Result DeliveryConfig Refusal) : Type 0 where
  pub is : configured_of r ≡ new_policy maxDeliver allowUnlimited backoff
  pub sound : IfOk r Sound

-- a config with another flush threshold, every other field as it was
abbrev pub flushing_after : DeliveryConfig → ℕ → DeliveryConfig
flushing_after c n =
    record {
      max_deliver = c.max_deliver;
      allow_unlimited = c.allow_unlimited;
      backoff_nanos = c.backoff_nanos;
      backoff_len = c.backoff_len;
      attempts_flush_redeliveries = n;
    }

-- it is the policy with that threshold, and stays sound
pub record FlushingIs (before : DeliveryConfig) (n : ℕ) (after : DeliveryConfig) : Type 0 where
  pub literal : after ≡ flushing_after before n
  pub is : view after ≡ with_flush_redeliveries (view before) n
  pub sound : Sound before → Sound after
