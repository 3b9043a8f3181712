-- How an answer crosses to another language: in numbers, beside what lent memory holds afterwards.
-- SPEC.md, "Interface".
use Rattle.std.specs.Prelude.{ℕ, List}
use Rattle.types.specs.Refusal.{answered}
use Rattle.types.specs.Table.{Answer}
use Rattle.answers.specs.Numbers.{numbers_of}
use Rattle.answers.specs.declared.Numbers.{Numbers}

-- what a caller gets: the numbers, and lent memory
pub record Crossed (S : Type 0) : Type 0 where
  pub numbers : Numbers
  pub lent : S

abbrev pub crossed : {S : Type 0} → Numbers → S → Crossed S
crossed n s = record { numbers = n; lent = s }

-- an answer, given the values of its outcomes
abbrev pub cross : {A S : Type 0} → (A → List ℕ) → Answer A S → Crossed S
cross given a = crossed (numbers_of (answered given a.outcome)) a.state
