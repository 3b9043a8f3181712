-- Answers in numbers: the refusal's number or 0, how many values there are, and the first five of them, which are all that an answer has
-- but a list.
-- SPEC.md, "Interface".
use Rattle.std.specs.Prelude.{ℕ, Bool, List, [], ◌∷◌, length, get_or}
use Rattle.std.proofs.Math.Option.{Option, none, some}
use Rattle.types.specs.Refusal.{Code, code, answered}
use Rattle.cursor.specs.declared.columns.Figures.{Figures}
use Rattle.delivery.specs.Policy.{Destination, Deliver, DeadLetter}
use Rattle.consumer.specs.Calls.{HandOut}
use Rattle.consumer.specs.Questions.{bit}
use Rattle.checkpoint.specs.Checkpoint.{BlockWritten}
use Rattle.machine.specs.Calls.{Event, claimed, acked, termed, nacked, progressed, committed, looked, begun, stepped, restarted, failed}
use Rattle.machine.specs.Transitions.{After}
use Rattle.answers.specs.declared.Numbers.{Numbers}

abbrev pub numbers : ℕ → ℕ → ℕ → ℕ → ℕ → ℕ → ℕ → Numbers
numbers number count first second third fourth fifth =
    record { 0 = number; 1 = count; 2 = first; 3 = second; 4 = third; 5 = fourth; 6 = fifth }

-- the refusal's number or 0, how many values there are, and the first five of them, 0 where there are fewer
abbrev pub numbers_of : Code → Numbers
numbers_of t =
    numbers t.number (length t.values) (get_or t.values 0 0) (get_or t.values 1 0) (get_or t.values 2 0) (get_or t.values 3 0) (get_or t.values 4 0)

-- a call that can't be made where it stands, or no call
abbrev pub not_now : Numbers
not_now = numbers_of (code 255 [])

abbrev pub dead_letter : Destination → ℕ
dead_letter Deliver = 0
dead_letter DeadLetter = 1

-- the values of each outcome
abbrev pub hand_out_values : HandOut → List ℕ
hand_out_values h = h.generation ∷ h.deliveries ∷ dead_letter h.destination ∷ []

abbrev pub no_values : {A : Type 0} → A → List ℕ
no_values a = []

abbrev pub one_value : ℕ → List ℕ
one_value n = n ∷ []

abbrev pub bit_value : Bool → List ℕ
bit_value b = bit b ∷ []

abbrev pub wrote_values : BlockWritten → List ℕ
wrote_values w = w.block ∷ bit w.last ∷ []

abbrev pub figures_values : Figures → List ℕ
figures_values f = f.committed ∷ f.runs ∷ []

abbrev pub values : List ℕ → List ℕ
values l = l

-- what is seen of a call, in numbers
abbrev pub seen_numbers : Event → Numbers
seen_numbers (claimed o now r) = numbers_of (answered hand_out_values r)
seen_numbers (acked o g r) = numbers_of (answered no_values r)
seen_numbers (termed o g r) = numbers_of (answered no_values r)
seen_numbers (nacked o g now d r) = numbers_of (answered one_value r)
seen_numbers (progressed o g now r) = numbers_of (answered one_value r)
seen_numbers (committed bound r) = numbers_of (answered bit_value r)
seen_numbers (looked q r) = numbers_of (answered values r)
seen_numbers (begun r) = numbers_of (answered one_value r)
seen_numbers (stepped r) = numbers_of (answered wrote_values r)
seen_numbers (restarted r) = numbers_of (answered no_values r)
seen_numbers (failed new) = numbers_of (code 0 [])

-- what a call made, `none` where it can't be made or is no call
abbrev pub numbers_in : Option After → Numbers
numbers_in none = not_now
numbers_in (some t) = seen_numbers t.event
