-- In opening hours alone. After every list that leaves a state, whatever hours the configuration has: an offset is handed out at an
-- open clock alone, a claim outside is told the next opening, a nacked offset comes back at the next opening after its delay, and from every
-- clock on there is an open one within a week.
-- SPEC.md, "Hours".
use Rattle.std.specs.Prelude.{ℕ, ◌+◌, ◌≤◌, ◌<◌, ◌≡◌, true, false, List}
use Rattle.std.proofs.Math.Option.{Option}
use Rattle.types.specs.Limits.{MAX, sat64}
use Rattle.types.specs.Refusal.{refused, done, Closed}
use Rattle.hours.specs.Hours.{Week, WEEK, isOpen}
use Rattle.consumer.specs.State.{Configuration, State}
use Rattle.consumer.specs.Calls.{HandOut, claim, nack_delay, nack}
use Rattle.consumer.specs.Valid.{Fits}
use Rattle.starts.specs.Restart.{start}
use Rattle.machine.specs.Transitions.{idle}
use Rattle.crash_safety.specs.Runs.{Item, ends, fresh_world}

-- a clock is the next opening of another one: it isn't before that, no clock between is open, and it is open unless it is given as MAX
pub record NextOpening (h : Option Week) (now clock : ℕ) : Type 0 where
  pub after : now ≤ clock
  pub none_before : (t : ℕ) → now ≤ t → t < clock → isOpen h t ≡ false
  pub is_open : clock < MAX → isOpen h clock ≡ true

-- an open clock, from a given one on and within a week of it
pub record OpensWithin (h : Option Week) (now : ℕ) : Type 0 where
  pub clock : ℕ
  pub from : now ≤ clock
  pub within : clock ≤ now + WEEK
  pub is_open : isOpen h clock ≡ true

pub record InHours (h : Option Week) (s : State) : Type 0 where
  pub hands_out : (w o now : ℕ) (x : HandOut) → (claim s w o now).outcome ≡ done x → isOpen h now ≡ true
  pub told : (w o now clock : ℕ) → now ≤ MAX → (claim s w o now).outcome ≡ refused (Closed clock) → NextOpening h now clock
  -- from the end of the nack's delay on, which the hard cap bounds
  pub comes_back : (w o g now : ℕ) (d : Option ℕ) (deadline : ℕ) → (nack s w o g now d).outcome ≡ done deadline
      → NextOpening h (sat64 now (nack_delay s o d)) deadline
  pub capped : (o : ℕ) (d : Option ℕ) → nack_delay s o d ≤ s.table.config.hard_cap_nanos
  pub opens : (now : ℕ) → OpensWithin h now

-- offsets are handed out only in opening hours. After every list that leaves a state
unfoldable pub InOpeningHours : Type 0
InOpeningHours =
    (c : Configuration) (size : ℕ) (s : State) (items : List Item) → Fits c.settings → start c size ≡ done s
    → (left : State) → (ends c (fresh_world s size) items).phase ≡ idle left → InHours c.settings.hours left
