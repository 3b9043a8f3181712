-- The refusal table of an operation: its tests in their order, each with its refusal. The first test that holds is
-- answered and changes nothing; where none holds, the operation takes effect.
-- SPEC.md, "Refusals".
use Rattle.std.specs.Prelude.{◌≡◌, Bool, false, cond, List, [], ◌∷◌}
use Rattle.std.proofs.Math.Option.{Option, none, some}
use Rattle.types.specs.Refusal.{Refusal, Result, refused, done}

pub record Row : Type 0 where
  pub test : Bool
  pub refusal : Refusal

abbrev pub ◌⇒◌ : Bool → Refusal → Row
◌⇒◌ t r = record { test = t; refusal = r }

infix 70 ◌⇒◌
abbrev pub first : List Row → Option Refusal
first [] = none
first (w ∷ ws) = cond w.test (some w.refusal) (first ws)

-- every test of the table failed
abbrev pub Passed : List Row → Type 0
Passed [] = Unit {0}
Passed (w ∷ ws) = (w.test ≡ false) × Passed ws

-- an answer, with what it leaves: the state, or the contents of lent memory
pub record Answer (A S : Type 0) : Type 0 where
  pub outcome : Result A
  pub state : S

abbrev pub answer : {A S : Type 0} → Result A → S → Answer A S
answer o s = record { outcome = o; state = s }

-- the refusal, or else the result
abbrev pub unless : {A : Type 0} → Option Refusal → Result A → Result A
unless (some r) a = refused r
unless none a = a

abbrev pub checked : {A : Type 0} → List Row → Result A → Result A
checked ws a = unless (first ws) a

-- the same for an operation on a state, which a refusal leaves as it was
abbrev pub unless_kept : {A S : Type 0} → Option Refusal → S → Answer A S → Answer A S
unless_kept (some r) s a = answer (refused r) s
unless_kept none s a = a

abbrev pub guarded : {A S : Type 0} → List Row → S → Answer A S → Answer A S
guarded ws s a = unless_kept (first ws) s a

-- a refusal gives back the very thing that was handed in
abbrev pub Kept : {A T : Type 0} → Result A → T → T → Type 0
Kept (refused r) before after = after ≡ before
Kept (done a) before after = Unit {0}
