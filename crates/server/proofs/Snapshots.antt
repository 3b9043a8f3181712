-- An export in numbers: from what the consumer's function says of the parts of a machine, and that it is what the transition makes.
-- Assumes nothing.
use Prim.Native.Nat.{ℕ, zero, suc}
use native.Mathlib.Omega.{arith}
use mathlib.Core.Path.{◌≡◌, refl, ap, ◌∙◌}
use mathlib.Core.Bool.{true}
use mathlib.Core.List.{List}
use Rattle.std.specs.Prelude as std
use Rattle.types.specs.Refusal.{Result}
use Rattle.types.specs.declared.refusals.Refusal.{Refusal}
use Rattle.types.specs.Refusal as refusal
use Rattle.consumer.specs.Export.{Snapshots}
use Rattle.consumer.specs.Questions.{export_to, export}
use Rattle.consumer.specs.View.{view, export_of}
use Rattle.consumer.specs.Parts.{Exports, Whole}
use Rattle.consumer.specs.declared.Consumer.{Consumer}
use Rattle.consumer.specs.declared.Configuration.{Configuration}
use Rattle.consumer.specs.declared.snapshots.Lengths.{Lengths}
use Rattle.checkpoint.specs.declared.Writing.{Writing}
use Rattle.starts.specs.Starting.{configuration_of}
use Rattle.machine.specs.Calls.{look, ask, u64}
use Rattle.machine.specs.Transitions.{transition}
use Rattle.machine.specs.View.{phase_of}
use Rattle.machine.specs.declared.Machine.{Machine}
use Rattle.machine.proofs.Exported.{export-is-call}
use Rattle.answers.specs.Numbers.{numbers_of, not_now, values, numbers_in}
use Rattle.answers.specs.declared.Numbers.{Numbers}
use Rattle.server.specs.Transitions.{ExportedOn, holding, ExportIs}
use Rattle.server.specs.Parts.{machine_of, Askable}

-- by the number of a phase
pub not_exported : (k : ℕ) (x : Consumer) (w : ℕ) (out : Snapshots) → (k ≡ 0 → ⊥) → ExportedOn k x w out not_now x out
not_exported zero x w out h = absurd (h refl)
not_exported (suc k) x w out h = (refl, refl, refl)

pub whole_of : (k : ℕ) (x : Consumer) → k ≡ 0 → Askable k x → Whole x
whole_of zero x e h = record { full = h.sized.table; sound = h.sound }
whole_of (suc k) x e h = absurd (omega arith)

pub export-numbers : (k : ℕ) (x : Consumer) (w : ℕ) (out : Snapshots) (y : Consumer) (a : std.Result Lengths Refusal) (out' : Snapshots) (n : Numbers) → k ≡ 0 → y ≡ x
    → Exports (view x) (export (view x) w out) out a out' → n ≡ numbers_of (refusal.answered values (export_of a out')) → ExportedOn k x w out n y out'
export-numbers zero x w out y a out' n e kept h same =
    record { is = same ∙ ap (λ (r : Result (List ℕ)). numbers_of (refusal.answered values r)) h.is; lists = h.lists; kept = kept }
export-numbers (suc k) x w out y a out' n e kept h same = absurd (omega arith)

module _ (s : Configuration) (r : Writing) (w : ℕ) (out : Snapshots) (n : Numbers) (x : Consumer) (out' : Snapshots) where
  pub exported-on : (k : ℕ) → ExportedOn k r.consumer w out n x out' → ExportIs (machine_of s k r) w out n (holding (machine_of s k r) x) out'
  exported-on zero h = record { is = λ area. h.is; lists = h.lists; kept = ap (holding (machine_of s 0 r)) h.kept }
  exported-on (suc zero) h = record { is = λ area. h.0; lists = h.2; kept = ap (holding (machine_of s 1 r)) h.1 }
  exported-on (suc (suc k)) h = record { is = λ area. h.0; lists = h.2; kept = ap (holding (machine_of s (suc (suc k)) r)) h.1 }

-- what `ninotskev_export` is proved to answer is what the transition makes of the call that asks it, in numbers
pub export-transition : (m : Machine) (w : ℕ) (out : Snapshots) (n : Numbers) (m' : Machine) (out' : Snapshots) → ExportIs m w out n m' out' → u64 w ≡ true
    → (area : List ℕ) → n ≡ numbers_in (transition (configuration_of m.configuration) (phase_of m) area (ask w (look (export_to out))))
export-transition m w out n m' out' h g area =
    h.is area ∙ ap numbers_in (export-is-call (configuration_of m.configuration) (phase_of m) area w out g)
