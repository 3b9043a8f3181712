-- What the functions on a consumer's words promise: the records of consumer/specs/View.antt, of words, and what the tests of a claim and
-- of a token say.
-- SPEC.md, "Calls".
use Rattle.std.specs.Prelude.{ℕ, ◌≡◌, Bool, List, Some, Ok, Err}
use Rattle.std.specs.Prelude as std
use Rattle.std.proofs.Math.Option.{Option, none}
use Rattle.types.specs.Limits.{sat64}
use Rattle.types.specs.Refusal.{Result, done}
use Rattle.types.specs.Table.{Row, first, checked, Answer, answer, Kept}
use Rattle.types.specs.declared.refusals.Refusal.{Refusal}
use Rattle.tables.specs.declared.Place.{Place}
use Rattle.lease.specs.InWords.{PlacedIn, OwnedIn}
use Rattle.consumer.specs.State.{State}
use Rattle.consumer.specs.Rights.{Operation, committing, bit_of}
use Rattle.consumer.specs.Calls.{call_rows, token_rows, attempt_of, nack_deadline, commit}
use Rattle.consumer.specs.Parts.{token_of}
use Rattle.consumer.specs.View.{test_of, Unmoved}
use Rattle.consumer.specs.declared.steps.HeldAt.{HeldAt}
use Rattle.consumer_words.specs.Layout.{leases_in, view, Sound}

-- ## calls
-- one that refuses or takes effect: answer and state are the definition's, and a refusal leaves the very words
pub record Answers {A : Type 0} (outcome : Result A) (before after : List ℕ) (right : Answer A State) : Type 0 where
  pub is : answer outcome (view after) ≡ right
  pub sound : Sound after
  pub kept : Kept outcome before after

-- a commit: where it moves nothing, it leaves the very words too
pub record Commits (outcome : Result Bool) (before after : List ℕ) (right : Answer Bool State) : Type 0 where
  pub is : answer outcome (view after) ≡ right
  pub sound : Sound after
  pub kept : Unmoved outcome before after

-- what it answers each worker who may commit
abbrev pub CommitsFor : Result Bool → List ℕ → List ℕ → ℕ → Type 0
CommitsFor outcome before after bound =
    (worker : ℕ) → none ≡ first (call_rows (view before) worker committing) → Commits outcome before after (commit (view before) worker bound)

-- ## the test of a claim
-- where the offset of an open claim stands, or belongs
abbrev pub OpenAt : ℕ → List ℕ → std.Result Place Refusal → Type 0
OpenAt o w (Ok place) = PlacedIn o (leases_in w) place
OpenAt o w (Err r) = Unit {0}

-- the first of some rows that is met
pub record Tests (rows : List Row) (o : ℕ) (w : List ℕ) (r : std.Result Place Refusal) : Type 0 where
  pub is : test_of r ≡ first rows
  pub place : OpenAt o w r

-- ## the test of a token of offset o and generation g
-- where the lease that it owns stands
abbrev pub TokenAt : ℕ → ℕ → List ℕ → std.Result HeldAt Refusal → Type 0
TokenAt o g w (Ok h) = OwnedIn o g (leases_in w) (Some h.at)
TokenAt o g w (Err r) = Unit {0}

-- what stands in front of a call of an operation that needs this bit
pub record Allows (w : List ℕ) (worker bit o g : ℕ) (r : std.Result HeldAt Refusal) : Type 0 where
  pub is : (op : Operation) → bit_of op ≡ bit → token_of r ≡ checked (token_rows (view w) worker op o g) (done (attempt_of (view w) o))
  pub at : TokenAt o g w r

-- ## the delay of a nack
-- it ends when each offset that was handed out so often can be claimed again
abbrev pub Delays : List ℕ → ℕ → ℕ → Option ℕ → ℕ → Type 0
Delays w attempt now explicit delay = (o : ℕ) → attempt ≡ attempt_of (view w) o → sat64 now delay ≡ nack_deadline (view w) o now explicit
