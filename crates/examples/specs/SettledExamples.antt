-- The fourteen settled examples as one statement. Each is on the definitions that the contracts of its crate cite, and
-- each refusal in it by its number and values.
-- SPEC.md, "Examples".
use Rattle.std.specs.Prelude.{ℕ, ◌≡◌, true, List, [], ◌∷◌, map, length}
use Rattle.types.specs.Limits.{RANGES}
use Rattle.types.specs.Refusal.{Code, code, Result, done, answered}
use Rattle.types.specs.Table.{Passed, answer}
use Rattle.cursor.specs.Ranges.{range}
use Rattle.cursor.specs.Cursor.{cursor, resume, resume_with_ahead, ackBounded}
use Rattle.cursor.specs.Snapshot.{decode_cursor}
use Rattle.cursor.specs.Examples as cursors
use Rattle.delivery.specs.Examples as delivery
use Rattle.attempt.specs.Snapshot.{decode_attempts}
use Rattle.attempt.specs.Examples as attempts
use Rattle.hours.specs.Hours.{isOpen}
use Rattle.lease.specs.Operations.{claim, extend}
use Rattle.lease.specs.Examples.{leased}
use Rattle.lease.specs.Examples as leases
use Rattle.consumer.specs.State.{Configuration}
use Rattle.consumer.specs.Rights.{claiming, bit_of, worker_rows}
use Rattle.consumer.specs.Calls as consumer
use Rattle.starts.specs.Restart.{fresh}
use Rattle.examples.specs.Consumer.{claims, from_start, acts14}
use Rattle.examples.specs.Consumer as consumers

-- the code of an answer: a refusal's number and values, and 0 where nothing is refused
abbrev pub code_in : {A : Type 0} → Result A → Code
code_in r = answered (λ a. []) r

-- ## the examples with refusals
pub record Three : Type 0 where
  pub is : cursors.Example3
  pub sheds : code_in (ackBounded (resume 0) 1 0).outcome ≡ code 29 []

pub record Five : Type 0 where
  pub is : cursors.Example5
  pub touching : code_in (resume_with_ahead 5 (range 5 6 ∷ [])) ≡ code 11 (5 ∷ 5 ∷ [])
  pub empty : code_in (resume_with_ahead 5 (range 5 5 ∷ [])) ≡ code 10 (5 ∷ 5 ∷ [])

pub record Seven : Type 0 where
  pub is : leases.Example7
  pub at_109 : code_in (claim leased 0 0 109).outcome ≡ code 23 []

pub record Eight : Type 0 where
  pub is : leases.Example8
  pub at_125 : code_in (extend leased 0 0 125).outcome ≡ code 28 []
  pub after_120 : code_in (extend (extend leased 0 0 120).state 0 0 125).outcome ≡ code 28 []

pub record Eleven (rest : List ℕ) : Type 0 where
  pub is : cursors.Example11 rest
  pub length_30 : length rest ≡ 29 → code_in (decode_cursor (2 ∷ rest)) ≡ code 7 (30 ∷ [])
  pub length_29 : length rest ≡ 28 → code_in (decode_cursor (2 ∷ rest)) ≡ code 8 (2 ∷ [])

pub record Twelve (a b c d e f g h i : ℕ) : Type 0 where
  pub is : attempts.Example12 a b c d e f g h i
  pub version_3 : code_in (decode_attempts (3 ∷ a ∷ b ∷ c ∷ d ∷ e ∷ f ∷ g ∷ h ∷ i ∷ [])) ≡ code 14 (3 ∷ [])
  pub version_1 : code_in (decode_attempts (1 ∷ a ∷ b ∷ c ∷ d ∷ e ∷ f ∷ g ∷ h ∷ i ∷ [])) ≡ code 15 (10 ∷ [])

pub record Thirteen : Type 0 where
  pub is : consumers.Example13
  pub started : map code_in (from_start (claims 0 ∷ [])) ≡ code 26 [] ∷ []
  pub always : (c : Configuration) (size w now : ℕ) → Passed (worker_rows c.settings.rights w (bit_of claiming))
      → isOpen c.settings.hours now ≡ true → code_in (consumer.claim (fresh c size) w 0 now).outcome ≡ code 26 []

pub record Fourteen : Type 0 where
  pub is : consumers.Example14
  pub answers : map code_in (from_start acts14) ≡ code 0 [] ∷ code 0 [] ∷ code 26 [] ∷ code 0 [] ∷ []

-- ## all of them
pub record SettledExamples : Type 0 where
  pub one : ackBounded (resume 0) 0 RANGES ≡ answer (done true) (cursor 1 [])
  pub two : cursors.Example2
  pub three : Three
  pub four : cursors.Example4
  pub five : Five
  pub six : cursors.Example6
  pub seven : Seven
  pub eight : Eight
  pub nine : delivery.Example9
  pub ten : delivery.Example10
  pub eleven : (rest : List ℕ) → Eleven rest
  pub twelve : (a b c d e f g h i : ℕ) → Twelve a b c d e f g h i
  pub thirteen : Thirteen
  pub fourteen : Fourteen
