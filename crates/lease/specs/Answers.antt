-- What the answers of lease.rs mean, as outcomes or refusals of the definitions, and the records that the contracts state.
-- SPEC.md, "Leases".
use Rattle.std.specs.Prelude.{ℕ, ◌≡◌, Bool, false, Option}
use Rattle.std.specs.Prelude as std
use Rattle.std.proofs.Math.Option as math
use Rattle.types.specs.Refusal.{Result, done}
use Rattle.types.specs.Refused.{result_of, as_is, option_of}
use Rattle.types.specs.Table.{Answer, answer, Kept}
use Rattle.types.specs.declared.refusals.Refusal.{Refusal}
use Rattle.lease.specs.State.{Table, view, Sound}
use Rattle.lease.specs.Operations.{Grant, grant_of}
use Rattle.lease.specs.declared.LeaseTable.{LeaseTable}
use Rattle.lease.specs.declared.Grant as code

-- ## answers
-- what a claim hands out
abbrev pub grant_in : code.Grant → Grant
grant_in g = grant_of g.token.offset.0 g.token.generation.0 g.deliveries

abbrev pub claim_of : std.Result code.Grant Refusal → Result Grant
claim_of = result_of grant_in

abbrev pub ack_of : std.Result (Unit {0}) Refusal → Result (Unit {0})
ack_of = as_is

abbrev pub extend_of : std.Result ℕ Refusal → Result ℕ
extend_of = as_is

abbrev pub nack_of : std.Result ℕ Refusal → Result ℕ
nack_of = as_is

abbrev pub resume_of : std.Result (Unit {0}) Refusal → Result (Unit {0})
resume_of = as_is

abbrev pub attempts_of : Option ℕ → math.Option ℕ
attempts_of = option_of (λ n. n)

-- ## contracts
-- a call that refuses or takes effect: answer and table are the definition's, and a refusal gives back the very struct
pub record Answers {A : Type 0} (outcome : Result A) (before after : LeaseTable) (right : Answer A Table) : Type 0 where
  pub is : answer outcome (view after) ≡ right
  pub sound : Sound after
  pub kept : Kept outcome before after

-- a call that changes the table or finds nothing to change: then it gives back the very struct
pub record Tries (changed : Bool) (before after : LeaseTable) (right : Answer Bool Table) : Type 0 where
  pub is : answer (done changed) (view after) ≡ right
  pub sound : Sound after
  pub kept : changed ≡ false → after ≡ before

-- a call that always takes effect
pub record Becomes (after : LeaseTable) (right : Table) : Type 0 where
  pub is : view after ≡ right
  pub sound : Sound after
