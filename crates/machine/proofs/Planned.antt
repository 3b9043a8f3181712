-- What a plan owes its contract, from what the consumer's own function ensures, and that it is a call of the step function.
-- Assumes nothing.
use Prim.Native.Nat.{ℕ, zero, suc}
use mathlib.Core.Path.{◌≡◌, refl, ap}
use mathlib.Core.Bool.{true}
use mathlib.Core.List.{List}
use mathlib.Core.Option.{none}
use lib.ListN.{length}
use Rattle.std.specs.Prelude.{Some, None}
use Rattle.std.specs.Prelude as std
use Rattle.types.specs.Refusal.{Result}
use Rattle.types.specs.declared.refusals.Refusal.{Refusal}
use Rattle.consumer.specs.State.{Configuration}
use Rattle.consumer.specs.Questions.{Plan}
use Rattle.consumer.specs.Questions as questions
use Rattle.consumer.specs.View.{view}
use Rattle.consumer.specs.Parts.{Plans}
use Rattle.checkpoint.specs.declared.Writing.{Writing}
use Rattle.machine.specs.Calls.{look, ask, u64, question_fits, looked}
use Rattle.machine.specs.Transitions.{Phase, idle, gives, transition}
use Rattle.machine.specs.View.{phase_at, plan_after, plan_bytes_in, PlannedIs}
use Rattle.machine.specs.declared.Machine.{Machine}

-- a plan is the call of the step function that asks it, and leaves the list of numbers that is lent to that as it was
pub plan-is-call : (c : Configuration) (p : Phase) (area : List ℕ) (w : ℕ) (os out : List ℕ) → u64 w ≡ true → question_fits (Plan os (length out)) ≡ true
    → plan_after p area w os out ≡ transition c p area (ask w (look (Plan os (length out))))
unfolding transition
plan-is-call c p area w os out g f = rw (g, f)

module _ (m : Machine) (w : ℕ) (os out : List ℕ) where
  none_there : (n : ℕ) (r : Writing) → (n ≡ 0 → ⊥) → (area : List ℕ) → none ≡ plan_after (phase_at n r) area w os out
  none_there zero r h area = absurd (h refl)
  none_there (suc zero) r h area = refl
  none_there (suc (suc n)) r h area = refl

  kept_there : (n : ℕ) (r : Writing) → (n ≡ 0 → ⊥) → out ≡ plan_bytes_in (phase_at n r) w os out
  kept_there zero r h = absurd (h refl)
  kept_there (suc zero) r h = refl
  kept_there (suc (suc n)) r h = refl

  pub not_planned : (m.phase ≡ 0 → ⊥) → PlannedIs m w os out None out
  not_planned h = record { is = none_there m.phase m.writing h; bytes = kept_there m.phase m.writing h }

  pub planned : m.phase ≡ 0 → (r : std.Result ℕ Refusal) (out' : List ℕ) → Plans (questions.look (view m.writing.consumer) w (Plan os (length out))) out r out'
      → PlannedIs m w os out (Some r) out'
  planned e r out' h =
      record {
        is = λ area. rw e (ap (λ (x : Result (List ℕ)). gives (looked (Plan os (length out)) x) (idle (view m.writing.consumer)) area) h.is);
        bytes = rw e h.bytes;
      }
