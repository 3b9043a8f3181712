-- Two consumers that are alike to a worker answer one who is no supervisor the same numbers, through `ninotskev_ask`. Assumes nothing.
use Prim.Native.Nat.{ℕ}
use mathlib.Core.Path.{◌≡◌, ap, sym, ◌∙◌}
use mathlib.Core.Bool.{false}
use mathlib.Core.List.{List, []}
use Rattle.types.specs.Refusal.{Result}
use Rattle.types.specs.Refusal as refusal
use Rattle.consumer.specs.State.{State}
use Rattle.consumer.specs.Questions.{ViewOf}
use Rattle.consumer.specs.Questions as questions
use Rattle.consumer.specs.Standing.{supervises, Alike}
use Rattle.consumer.proofs.Standing.{same_answer}
use Rattle.machine.specs.Transitions.{idle}
use Rattle.machine.specs.View.{phase_of}
use Rattle.machine.specs.declared.Machine.{Machine}
use Rattle.answers.specs.Numbers.{numbers_of, values}
use Rattle.answers.specs.declared.Numbers.{Numbers}
use Rattle.server.specs.Transitions.{Answered, AskIs}

-- the answer to the question is that of the state
viewed : (m : Machine) (s : State) (w o now c d : ℕ) {out out' : List ℕ} (n : Numbers) (m' : Machine) → phase_of m ≡ idle s → AskIs m w 40 o now c d out n m' out'
    → n ≡ numbers_of (refusal.answered values (questions.look s w (ViewOf o now)))
viewed m s w o now c d n m' e h = ap (λ (x : Answered). x.numbers) (rw e at (h.is []))

pub same_numbers : (now : ℕ) (m k : Machine) (s t : State) → phase_of m ≡ idle s → phase_of k ≡ idle t → Alike now s t → (w : ℕ) → supervises s.settings.rights w ≡ false
    → (o c d c' d' : ℕ) {out out' rest rest' : List ℕ} (n p : Numbers) (m' k' : Machine) → AskIs m w 40 o now c d out n m' out' → AskIs k w 40 o now c' d' rest p k' rest' → n ≡ p
same_numbers now m k s t e f a w not-one o c d c' d' n p m' k' h g =
    viewed m s w o now c d n m' e h
    ∙ ap (λ (x : Result (List ℕ)). numbers_of (refusal.answered values x)) (same_answer now s t a w not-one o)
    ∙ sym (viewed k t w o now c' d' p k' f g)
