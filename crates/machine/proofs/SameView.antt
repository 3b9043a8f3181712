-- A worker who is no supervisor is answered the same by the code, down to the very enum, on two consumers that are alike to a worker.
-- Assumes nothing.
use Prim.Native.Nat.{ℕ}
use native.Mathlib.Omega.{arith}
use mathlib.Core.Path.{◌≡◌, refl, sym, ap, ◌∙◌}
use mathlib.Core.Bool.{false}
use mathlib.Core.List.{List, []}
use mathlib.Core.Option.{Option, none, some}
use Rattle.std.specs.Prelude.{Ok, Err}
use Rattle.types.specs.Refusal.{Result, refused, done}
use Rattle.types.specs.Refused.{refusal_of}
use Rattle.consumer.specs.Questions.{ViewOf}
use Rattle.consumer.specs.Questions as questions
use Rattle.consumer.specs.Standing.{supervises, view_values, Alike}
use Rattle.consumer.specs.View.{view, view_in}
use Rattle.consumer.specs.declared.Consumer.{Consumer}
use Rattle.consumer.specs.declared.views.View as code
use Rattle.consumer.proofs.Standing.{same_answer, view_from, values-tell}
use Rattle.machine.specs.Calls.{look, Event, looked}
use Rattle.machine.specs.Transitions.{After, asked}
use Rattle.machine.specs.Answers.{arguments_of, seen_of}
use Rattle.machine.specs.View.{AskedIs}
use Rattle.machine.specs.declared.calls.Asked.{Asked}
use Rattle.machine.specs.declared.calls.Reply.TheVariants as replies
use Rattle.machine.specs.declared.calls.AskAnswer.{AskAnswer}
use Rattle.machine.specs.declared.calls.AskAnswer.TheVariants as answers
use Rattle.machine.proofs.Refusals.{refusal_from, refusal-back}

-- the answer of the code to this question, by what it is answered
abbrev answer_from : Result (List ℕ) → AskAnswer
answer_from (done l) = answers.Looked (Ok (replies.ViewOf (view_from l)))
answer_from (refused f) = answers.Looked (Err (refusal_from f))

impossible : {P : Type 0} → ◌≡◌ {A = ℕ} 0 1 → P
impossible z = absurd (omega (arith, z))

module _ (o now : ℕ) (out : List ℕ) (x : Result (List ℕ)) where
  abbrev Seen : AskAnswer → Type 0
  Seen r = seen_of (arguments_of (look (ViewOf o now))) r out ≡ looked (ViewOf o now) x

  told : (r : AskAnswer) → Seen r → r ≡ answer_from x
  told (answers.Claimed a) e = impossible cc
  told (answers.Acked a) e = impossible cc
  told (answers.Termed a) e = impossible cc
  told (answers.Nacked a) e = impossible cc
  told (answers.Progressed a) e = impossible cc
  told (answers.Committed a) e = impossible cc
  told (answers.Looked (Ok (replies.Waiting l))) e = impossible cc
  told (answers.Looked (Ok (replies.Committed c))) e = impossible cc
  told (answers.Looked (Ok (replies.IsSettled b))) e = impossible cc
  told (answers.Looked (Ok (replies.LeaseOf l))) e = impossible cc
  told (answers.Looked (Ok (replies.CountOf n))) e = impossible cc
  told (answers.Looked (Ok (replies.InFlight n))) e = impossible cc
  told (answers.Looked (Ok (replies.IsDue d))) e = impossible cc
  told (answers.Looked (Ok (replies.BlocksLeft n))) e = impossible cc
  told (answers.Looked (Ok (replies.ViewOf v))) e =
      let q : x ≡ done (view_values (view_in v)) = cc in
      rw q (ap (λ (y : code.View). answers.Looked (Ok (replies.ViewOf y))) (sym (values-tell v)))
  told (answers.Looked (Ok (replies.OpenBetween l))) e = impossible cc
  told (answers.Looked (Ok (replies.NearestOpen n))) e = impossible cc
  told (answers.Looked (Err f)) e = let q : x ≡ refused (refusal_of f) = cc in rw (q, refusal-back f)

-- what was seen
abbrev event_in : Event → Option After → Event
event_in e none = e
event_in e (some t) = t.event

module _ (c : Consumer) (w o now : ℕ) {out out' : List ℕ} (r : Asked) where
  answered : AskedIs c w (look (ViewOf o now)) out r out' → r.answer ≡ answer_from (questions.look (view c) w (ViewOf o now))
  answered h =
      let e = seen_of (arguments_of (look (ViewOf o now))) r.answer out' in
      told o now out' (questions.look (view c) w (ViewOf o now)) r.answer (ap (event_in e) (h.is []))

pub same-reply : (now : ℕ) (c d : Consumer) → Alike now (view c) (view d) → (w : ℕ) → supervises c.settings.rights w ≡ false → (o : ℕ)
    → {out out' rest rest' : List ℕ} (r q : Asked) → AskedIs c w (look (ViewOf o now)) out r out' → AskedIs d w (look (ViewOf o now)) rest q rest'
    → r.answer ≡ q.answer
same-reply now c d a w m o r q h k =
    answered c w o now r h ∙ ap answer_from (same_answer now (view c) (view d) a w m o) ∙ sym (answered d w o now q k)
