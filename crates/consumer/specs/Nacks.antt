-- How long an offset waits after a nack: no longer than up to the next opening after the hard cap, whatever the worker asks for and the
-- schedule says. A consumer without hours is open always.
-- SPEC.md, "Nack".
use Rattle.std.specs.Prelude.{ℕ, ◌≤◌, ◌≡◌, false}
use Rattle.std.proofs.Math.Option.{Option}
use Rattle.types.specs.Refusal.{done}
use Rattle.types.specs.Table.{answer}
use Rattle.hours.specs.Hours.{next_opening}
use Rattle.lease.specs.Operations.{lease_of, running, cap_from}
use Rattle.consumer.specs.State.{State}
use Rattle.consumer.specs.Calls.{nack}

-- the next opening from the hard cap on, as a state has both
abbrev pub latest : State → ℕ → ℕ
latest s now = next_opening s.settings.hours (cap_from s.table.config now)

-- of a nack of o at a clock, by the hard cap and the hours of the state that it finds: the deadline that it answers is at most the next
-- opening from the cap on, and from then on the state that it leaves has no lease that keeps o from being claimed
pub record WithinCap (before : State) (o now deadline : ℕ) (after : State) : Type 0 where
  pub answered : deadline ≤ latest before now
  pub free : (later : ℕ) → latest before now ≤ later → running (lease_of after.table o) later ≡ false

-- every nack that is answered
unfoldable pub NackWithinCap : Type 0
NackWithinCap =
    (s : State) (w o g now : ℕ) (explicit : Option ℕ) (deadline : ℕ) (after : State)
    → nack s w o g now explicit ≡ answer (done deadline) after → WithinCap s o now deadline after
