-- What a plan owes its contract, from what the cursor's own function ensures. Assumes nothing.
use Prim.Native.Nat.{ℕ}
use mathlib.Core.Path.{◌≡◌, refl, sym, ap, ◌∙◌}
use mathlib.Core.List.{List, ◌∷◌}
use mathlib.Core.Option.{Option, none, some}
use lib.ListN.{length, get_or, length-map, get_or-map}
use Rattle.std.specs.Prelude.{Ok, Err}
use Rattle.std.specs.Prelude as std
use Rattle.types.specs.Refusal.{Refusal, Result, refused, done}
use Rattle.types.specs.Refused.{refusal_of, as_is}
use Rattle.types.specs.declared.refusals.Refusal as code_refusal
use Rattle.types.specs.Lists.{numbers_of}
use Rattle.types.specs.declared.Offset.{Offset}
use Rattle.types.specs.Table.{first, Answer, answer, unless, unless_kept}
use Rattle.cursor.specs.Plan.{plan_table, looks, plan_bytes, plan}
use Rattle.consumer.specs.State.{State}
use Rattle.consumer.specs.Rights.{looking}
use Rattle.consumer.specs.Calls.{call_rows}
use Rattle.consumer.specs.Questions.{Plan, reply, look}
use Rattle.consumer.specs.View.{plan_of}
use Rattle.consumer.specs.Parts.{Plans}

-- the cursor's answer, with what it left in the lent byte list
replied_with : Result ℕ → List ℕ → Result (List ℕ)
replied_with (refused r) out = refused r
replied_with (done n) out = done (n ∷ out)

replied : (r : std.Result ℕ code_refusal.Refusal) (out : List ℕ) → plan_of r out ≡ replied_with (as_is r) out
unfolding replied_with
replied (Ok n) out = refl
replied (Err r) out = refl

-- whatever is refused, or nothing
by_answer : (x : Option Refusal) (n : ℕ) (bytes out out' : List ℕ) (r : std.Result ℕ code_refusal.Refusal)
    → answer (as_is r) out' ≡ unless_kept x out (answer (done n) bytes) → Plans (unless x (done (n ∷ bytes))) out r out'
unfolding replied_with
by_answer (some f) n bytes out out' r e =
    let met : as_is r ≡ refused f = ap (λ (a : Answer ℕ (List ℕ)). a.outcome) e in
    record { is = replied r out' ∙ ap (λ (o : Result ℕ). replied_with o out') met; bytes = ap (λ (a : Answer ℕ (List ℕ)). a.state) e }
by_answer none n bytes out out' r e =
    let met : as_is r ≡ done n = ap (λ (a : Answer ℕ (List ℕ)). a.outcome) e in
    let filled : out' ≡ bytes = ap (λ (a : Answer ℕ (List ℕ)). a.state) e in
    record { is = replied r out' ∙ ap (λ (o : Result ℕ). replied_with o out') met ∙ ap (λ (l : List ℕ). done (n ∷ l)) filled; bytes = filled }

module _ (s : State) (w : ℕ) (os out : List ℕ) where
  pub plan-replied : (out' : List ℕ) (r : std.Result ℕ code_refusal.Refusal) → answer (as_is r) out' ≡ plan s.cursor os out
      → Plans (reply s w (Plan os (length out))) out r out'
  unfolding plan
  plan-replied out' r e =
      by_answer (first (plan_table os (length out))) (looks s.cursor os) (plan_bytes s.cursor os) out out' r e

  pub plan-refused : (f : code_refusal.Refusal) → some (refusal_of f) ≡ first (call_rows s w looking) → Plans (look s w (Plan os (length out))) out (Err f) out
  plan-refused f e = let met : first (call_rows s w looking) ≡ some (refusal_of f) = sym e in record { is = rw met; bytes = rw met }

  pub plan-permitted : none ≡ first (call_rows s w looking) → (out' : List ℕ) (r : std.Result ℕ code_refusal.Refusal) → answer (as_is r) out' ≡ plan s.cursor os out
      → Plans (look s w (Plan os (length out))) out r out'
  plan-permitted e out' r h = let met : first (call_rows s w looking) ≡ none = sym e in rw met (plan-replied out' r h)

-- ## the lent list of offsets
pub numbers-long : (ps : List Offset) → length (numbers_of ps) ≡ length ps
numbers-long ps = length-map ps (λ (p : Offset). p.0)

pub number-at : (ps : List Offset) (i : ℕ) (d : Offset) → get_or (numbers_of ps) i d.0 ≡ (get_or ps i d).0
number-at ps i d = get_or-map (λ (p : Offset). p.0) ps i d
