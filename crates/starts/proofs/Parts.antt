-- What a restart reads into the parts of a consumer: a fresh consumer's numbers beside columns that are kept, and the same of what is
-- equal. Assumes nothing.
use Prim.Native.Nat.{ℕ}
use native.Mathlib.Omega.{arith}
use mathlib.Core.Path.{◌≡◌, refl, ◌∙◌}
use Rattle.std.specs.Prelude.{Ok, Err}
use Rattle.std.specs.Prelude as std
use Rattle.types.specs.Refusal.{Result, refused, done}
use Rattle.types.specs.Refused.{refusal_of}
use Rattle.types.specs.declared.refusals.Refusal.{Refusal}
use Rattle.consumer.specs.State.{State}
use Rattle.consumer.specs.State as state
use Rattle.starts.specs.Restart.{fresh}
use Rattle.starts.specs.Parts.{fresh_numbers, Columns, ReadIs}
use Rattle.starts.specs.declared.in_place.RestartedAt.{RestartedAt}

module _ (right : state.Configuration → Result State) (size : ℕ) where
  pub fresh-read : (p : Columns) → ((k : state.Configuration) → done (fresh k size) ≡ right k) → ReadIs right size (Ok fresh_numbers) p p
  fresh-read p h =
      record {
        is = h;
        measured = record { cursor = record { few = omega arith; valid = record { fits = omega arith; above = tt; few = omega arith } }; few = omega arith };
        kept = tt;
      }

  pub refused-read : (r : Refusal) (p : Columns) → ((k : state.Configuration) → refused (refusal_of r) ≡ right k) → ReadIs right size (Err r) p p
  refused-read r p h = record { is = h; measured = tt; kept = refl }

  pub read_as : (other : state.Configuration → Result State) → ((k : state.Configuration) → right k ≡ other k)
      → (r : std.Result RestartedAt Refusal) (before after : Columns) → ReadIs right size r before after → ReadIs other size r before after
  read_as other e r before after h = record { is = λ k. h.is k ∙ e k; measured = h.measured; kept = h.kept }
