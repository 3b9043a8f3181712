-- Demand 3's lists: calls that each get what the one before left, from a fresh consumer on one zeroed journal with one
-- configuration, and power failures in the middle of a block write.
-- SPEC.md, "Lists".
use Rattle.std.specs.Prelude.{ℕ, cond, List, [], ◌∷◌, eqb, length, replicate}
use Rattle.std.proofs.Math.Option.{Option, none, some}
use Rattle.consumer.specs.State.{Configuration, State}
use Rattle.machine.specs.Calls.{Call, step, Event}
use Rattle.machine.specs.Transitions.{Phase, idle, After, gives, transition}
use Rattle.power_cut.specs.Cut.{Cut, power_cut}

pub data Item : Type 0 where
  -- a call that is lent the journal
  call : Call → Item
  -- a step that is lent memory of another length than the journal's
  step_on : List ℕ → Item
  -- the power fails in a step that is lent the journal
  cut : Cut → Item

-- who can be called, and the journal
pub record World : Type 0 where
  pub phase : Phase
  pub journal : List ℕ

abbrev pub world : Phase → List ℕ → World
world p a = record { phase = p; journal = a }

-- other memory is lent, so the journal stays as it is
abbrev pub keeps_journal : List ℕ → Option After → Option After
keeps_journal a none = none
keeps_journal a (some t) = gives t.event t.phase a

abbrev pub step_elsewhere : Configuration → World → List ℕ → Option After
step_elsewhere c w b =
    cond (eqb (length b) (length w.journal)) none (keeps_journal w.journal (transition c w.phase b step))

-- one item; `none`: it can't be made where it stands
unfoldable pub next : Configuration → World → Item → Option After
next c w (call q) = transition c w.phase w.journal q
next c w (step_on b) = step_elsewhere c w b
next c w (cut k) = power_cut w.phase w.journal k

abbrev pub after : After → World
after t = world t.phase t.area

-- what is seen of a list. What can't be made where it stands is skipped: it is not seen and changes nothing
unfoldable pub run : Configuration → World → List Item → List Event
run c w [] = []
run c w (i ∷ is) = elim (next c w i) [ none ↦ run c w is | some t ↦ t.event ∷ run c (after t) is ]

-- who can be called after a list, and the journal then
unfoldable pub ends : Configuration → World → List Item → World
ends c w [] = w
ends c w (i ∷ is) = elim (next c w i) [ none ↦ ends c w is | some t ↦ ends c (after t) is ]

-- a fresh consumer on a zeroed journal of so many bytes
abbrev pub fresh_world : State → ℕ → World
fresh_world s n = world (idle s) (replicate n 0)
