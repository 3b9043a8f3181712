-- A plan in numbers: from what the consumer's function says of the parts of a machine, and that it is what the transition makes.
-- Assumes nothing.
use Prim.Native.Nat.{ℕ, zero, suc}
use native.Mathlib.Omega.{arith}
use mathlib.Core.Path.{◌≡◌, refl, sym, ap, ◌∙◌}
use mathlib.Core.Bool.{true}
use mathlib.Core.List.{List}
use mathlib.Core.Option.{Option}
use lib.ListN.{length}
use Rattle.std.specs.Prelude as std
use Rattle.types.specs.Refusal.{Result}
use Rattle.types.specs.declared.refusals.Refusal.{Refusal}
use Rattle.types.specs.Refusal as refusal
use Rattle.consumer.specs.Questions.{Plan}
use Rattle.consumer.specs.Questions as questions
use Rattle.consumer.specs.View.{view, plan_of}
use Rattle.consumer.specs.Parts.{Plans}
use Rattle.consumer.specs.declared.Consumer.{Consumer}
use Rattle.consumer.specs.declared.Configuration.{Configuration}
use Rattle.checkpoint.specs.declared.Writing.{Writing}
use Rattle.starts.specs.Starting.{configuration_of}
use Rattle.machine.specs.Calls.{look, ask, u64, question_fits}
use Rattle.machine.specs.Transitions.{After, transition}
use Rattle.machine.specs.View.{phase_of}
use Rattle.machine.specs.declared.Machine.{Machine}
use Rattle.machine.proofs.Planned.{plan-is-call}
use Rattle.answers.specs.Numbers.{numbers_of, not_now, values, numbers_in}
use Rattle.answers.specs.declared.Numbers.{Numbers}
use Rattle.server.specs.Transitions.{PlannedOn, holding, PlanIs}
use Rattle.server.specs.Parts.{machine_of}

-- by the number of a phase
pub not_planned : (k : ℕ) (x : Consumer) (w : ℕ) (os out : List ℕ) → (k ≡ 0 → ⊥) → PlannedOn k x w os out not_now x out
not_planned zero x w os out h = absurd (h refl)
not_planned (suc k) x w os out h = (refl, refl, refl)

pub plan-numbers : (k : ℕ) (x : Consumer) (w : ℕ) (os out : List ℕ) (y : Consumer) (a : std.Result ℕ Refusal) (out' : List ℕ) (n : Numbers) → k ≡ 0 → y ≡ x
    → Plans (questions.look (view x) w (Plan os (length out))) out a out' → n ≡ numbers_of (refusal.answered values (plan_of a out')) → PlannedOn k x w os out n y out'
plan-numbers zero x w os out y a out' n e kept h same =
    record { is = same ∙ ap (λ (r : Result (List ℕ)). numbers_of (refusal.answered values r)) h.is; bytes = h.bytes; kept = kept }
plan-numbers (suc k) x w os out y a out' n e kept h same = absurd (omega arith)

module _ (s : Configuration) (r : Writing) (w : ℕ) (os out : List ℕ) (n : Numbers) (x : Consumer) (out' : List ℕ) where
  pub planned-on : (k : ℕ) → PlannedOn k r.consumer w os out n x out' → PlanIs (machine_of s k r) w os out n (holding (machine_of s k r) x) out'
  planned-on zero h = record { is = λ area. h.is; bytes = h.bytes; kept = ap (holding (machine_of s 0 r)) h.kept }
  planned-on (suc zero) h = record { is = λ area. h.0; bytes = h.2; kept = ap (holding (machine_of s 1 r)) h.1 }
  planned-on (suc (suc k)) h = record { is = λ area. h.0; bytes = h.2; kept = ap (holding (machine_of s (suc (suc k)) r)) h.1 }

-- what `ninotskev_plan` is proved to answer is what the transition makes of the call that asks it, in numbers
pub plan-transition : (m : Machine) (w : ℕ) (os out : List ℕ) (n : Numbers) (m' : Machine) (out' : List ℕ) → PlanIs m w os out n m' out' → u64 w ≡ true → question_fits (Plan os (length out)) ≡ true
    → (area : List ℕ) → n ≡ numbers_in (transition (configuration_of m.configuration) (phase_of m) area (ask w (look (Plan os (length out)))))
plan-transition m w os out n m' out' h g f area =
    h.is area ∙ ap numbers_in (plan-is-call (configuration_of m.configuration) (phase_of m) area w os out g f)
