-- What an export owes its contract, from what the consumer's own function ensures, and that it is a call of the step function.
-- Assumes nothing.
use Prim.Native.Nat.{ℕ, zero, suc}
use mathlib.Core.Path.{◌≡◌, refl, ap}
use mathlib.Core.Bool.{true}
use mathlib.Core.List.{List}
use mathlib.Core.Option.{none}
use Rattle.std.specs.Prelude.{Some, None}
use Rattle.std.specs.Prelude as std
use Rattle.types.specs.Refusal.{Result}
use Rattle.types.specs.declared.refusals.Refusal.{Refusal}
use Rattle.consumer.specs.State.{Configuration}
use Rattle.consumer.specs.Export.{Snapshots}
use Rattle.consumer.specs.Questions.{export_to, export}
use Rattle.consumer.specs.View.{view}
use Rattle.consumer.specs.Parts.{Exports}
use Rattle.consumer.specs.declared.snapshots.Lengths.{Lengths}
use Rattle.checkpoint.specs.declared.Writing.{Writing}
use Rattle.machine.specs.Calls.{look, ask, u64, looked}
use Rattle.machine.specs.Transitions.{Phase, idle, gives, transition}
use Rattle.machine.specs.View.{phase_at, export_after, snapshots_in, ExportedIs}
use Rattle.machine.specs.declared.Machine.{Machine}

-- an export is the call of the step function that asks it, and leaves the list of numbers that is lent to that as it was
pub export-is-call : (c : Configuration) (p : Phase) (area : List ℕ) (w : ℕ) (out : Snapshots) → u64 w ≡ true
    → export_after p area w out ≡ transition c p area (ask w (look (export_to out)))
unfolding transition
export-is-call c p area w out g = rw g

module _ (m : Machine) (w : ℕ) (out : Snapshots) where
  none_there : (n : ℕ) (r : Writing) → (n ≡ 0 → ⊥) → (area : List ℕ) → none ≡ export_after (phase_at n r) area w out
  none_there zero r h area = absurd (h refl)
  none_there (suc zero) r h area = refl
  none_there (suc (suc n)) r h area = refl

  kept_there : (n : ℕ) (r : Writing) → (n ≡ 0 → ⊥) → out ≡ snapshots_in (phase_at n r) w out
  kept_there zero r h = absurd (h refl)
  kept_there (suc zero) r h = refl
  kept_there (suc (suc n)) r h = refl

  pub not_exported : (m.phase ≡ 0 → ⊥) → ExportedIs m w out None out
  not_exported h = record { is = none_there m.phase m.writing h; lists = kept_there m.phase m.writing h }

  pub exported_as : m.phase ≡ 0 → (r : std.Result Lengths Refusal) (out' : Snapshots) → let s = view m.writing.consumer in Exports s (export s w out) out r out'
      → ExportedIs m w out (Some r) out'
  exported_as e r out' h =
      record {
        is = λ area. rw e (ap (λ (x : Result (List ℕ)). gives (looked (export_to out) x) (idle (view m.writing.consumer)) area) h.is);
        lists = rw e h.lists;
      }
