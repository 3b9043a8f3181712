-- What a start and a restart are handed and answer in the code: the configuration that the struct stands for, the refusals for the
-- cases of the answer, and the parts of the contracts.
-- SPEC.md, "Restart".
use Rattle.std.specs.Prelude.{ℕ, ◌+◌, ◌-◌, ◌≤◌, ◌≡◌, List, ◌++◌, true, false, length, take, replicate, Some, None, Ok, Err}
use Rattle.std.specs.Prelude as std
use Rattle.std.proofs.Math.Option.{Option, none, some}
use Rattle.journal.specs.Area.{bad_length, outside, block_at}
use Rattle.journal.specs.Answers.{stop_of}
use Rattle.journal.specs.declared.Stop.{Stop}
use Rattle.journal.specs.Blocks.{bodies_for, cursor_length, attempt_length, payload_length}
use Rattle.types.specs.Refusal.{Refusal, Result, refused, done}
use Rattle.types.specs.Refused.{refusal_of, result_of}
use Rattle.types.specs.declared.refusals.Refusal as code
use Rattle.cursor.specs.View as cursor
use Rattle.delivery.specs.declared.DeliveryConfig.{DeliveryConfig}
use Rattle.delivery.specs.Policy.{policy}
use Rattle.hours.specs.View as hours
use Rattle.lease.specs.State as lease
use Rattle.consumer.specs.State.{State}
use Rattle.consumer.specs.State as state
use Rattle.consumer.specs.View.{settings_of, view, Sound}
use Rattle.consumer.specs.declared.Settings.{Settings}
use Rattle.consumer.specs.declared.Configuration.{Configuration}
use Rattle.consumer.specs.declared.NextGroup.{NextGroup}
use Rattle.consumer.specs.declared.Consumer.{Consumer}
use Rattle.starts.specs.Restart.{fresh, opens, first_number, walk_of}
use Rattle.starts.specs.declared.Started.{Started}

-- the backoffs of a config, as many as it counts: any past its array are 0
abbrev pub backoffs_of : DeliveryConfig → List ℕ
backoffs_of c = take c.backoff_len c.backoff_nanos ++ replicate (c.backoff_len - 16) 0

-- the settings as they are handed in
abbrev pub handed_of : Settings → state.Settings
handed_of s =
    record {
      policy =
          policy s.delivery.max_deliver s.delivery.allow_unlimited (backoffs_of s.delivery)
          s.delivery.attempts_flush_redeliveries;
      rights = s.rights;
      hours = hours.view s.hours;
    }

abbrev pub configuration_of : Configuration → state.Configuration
configuration_of c = record { settings = handed_of c.settings; lease = c.lease }

-- the configuration as the consumer keeps it
abbrev pub kept_of : Configuration → state.Configuration
kept_of c = record { settings = settings_of c.settings; lease = c.lease }

-- the refusal that an answer is, if it is one
abbrev pub start_fault : std.Result (Unit {0}) code.Refusal → Option Refusal
start_fault (Ok _) = none
start_fault (Err r) = some (refusal_of r)

-- the answer, with the state that stands beside it
abbrev pub start_of : std.Result (Unit {0}) code.Refusal → State → Result State
start_of a s = result_of (λ x. s) a

-- a fresh consumer
pub record FreshIs (s : Configuration) (size : ℕ) (c : Consumer) : Type 0 where
  pub is : view c ≡ fresh (kept_of s) size
  pub cursor : cursor.Sound c.cursor
  pub table : lease.Sound c.table
  pub settings : c.settings ≡ s.settings

-- beside a refusal stands the fresh consumer; else the consumer is sound
abbrev pub Beside : Result State → Configuration → ℕ → Consumer → Type 0
Beside (refused r) s size c = view c ≡ fresh (kept_of s) size
Beside (done t) s size c = Sound c

pub record StartedIs (s : Configuration) (size : ℕ) (right : Result State) (r : Started) : Type 0 where
  pub is : start_of r.answer (view r.consumer) ≡ right
  pub beside : Beside right s size r.consumer

-- ## a restart's parts
-- the number under which the first block of a half opens it, if it does
abbrev pub OpeningIs : (a : List ℕ) (i : ℕ) → std.Option ℕ → Type 0
OpeningIs a i (Some n) = (opens a i ≡ true) × (n ≡ first_number a i)
OpeningIs a i None = opens a i ≡ false

abbrev pub next_group_of : NextGroup → state.NextGroup
next_group_of next = state.next_group_at next.number next.block

-- a group lies in the area, with its header at a block, and its snapshots have lengths that a header may have
pub record Lies (a : List ℕ) (i : ℕ) : Type 0 where
  pub inside : outside (length a) (i + bodies_for (payload_length (block_at a i))) ≡ false
  pub cursor : cursor_length (block_at a i) ≤ 2061
  pub attempts : attempt_length (block_at a i) ≤ 1545

-- where a walk over the whole area ended, from where it begins; the area has a length that an area may have
pub record StopIs (a : List ℕ) (s : Stop) : Type 0 where
  pub area : bad_length (length a) ≡ false
  pub is : done (stop_of s) ≡ walk_of a
