-- What the code's calls and answers stand for: the calls and the events of Calls.antt.
-- SPEC.md, "Lists".
use Rattle.std.specs.Prelude.{ℕ, ◌/◌, ◌≡◌, List, [], ◌∷◌, ◌++◌, take, drop, length, replicate, Some, None, Ok, Err}
use Rattle.std.specs.Prelude as std
use Rattle.std.proofs.Math.Option.{Option, none, some}
use Rattle.types.specs.Refusal.{Result, refused, done}
use Rattle.types.specs.Refused.{result_of}
use Rattle.types.specs.Table.{Kept}
use Rattle.types.specs.declared.refusals.Refusal.{Refusal}
use Rattle.delivery.specs.Config.{delay_of}
use Rattle.consumer.specs.Questions.{Question, Waiting, Committed, IsSettled, LeaseOf, CountOf, InFlight, IsDue, BlocksLeft, ViewOf, Plan, Export, OpenBetween, NearestOpen, bit}
use Rattle.consumer.specs.Standing.{view_values}
use Rattle.consumer.specs.View.{claim_of, settle_of, nack_of, progress_of, commit_of, view_in, Unmoved}
use Rattle.machine.specs.Calls.{Ask, claim, ack, term, nack, progress, commit, look, Call, ask, begin, step, restart, Event, claimed, acked, termed, nacked, progressed, committed, looked, begun, stepped, restarted, failed}
use Rattle.machine.specs.Transitions.{After}
use Rattle.machine.specs.declared.calls.Question.TheVariants as question
use Rattle.machine.specs.declared.calls.Question as code
use Rattle.machine.specs.declared.calls.Ask as code-ask
use Rattle.machine.specs.declared.calls.Ask.TheVariants as asks
use Rattle.machine.specs.declared.calls.Call as code_call
use Rattle.machine.specs.declared.calls.Call.TheVariants as calls
use Rattle.machine.specs.declared.calls.LeaseFigures.{LeaseFigures}
use Rattle.machine.specs.declared.calls.Reply.{Reply}
use Rattle.machine.specs.declared.calls.Reply.TheVariants as reply
use Rattle.machine.specs.declared.calls.AskAnswer.{AskAnswer}
use Rattle.machine.specs.declared.calls.AskAnswer.TheVariants as answer

-- ## calls
-- the question; `room` is the number of places that are lent for a list, of which a stretch takes two
abbrev pub question_of : ℕ → code.Question → Question
question_of room (question.Waiting now) = Waiting now room
question_of room question.Committed = Committed
question_of room (question.IsSettled o) = IsSettled o.0
question_of room (question.LeaseOf o) = LeaseOf o.0
question_of room (question.CountOf o) = CountOf o.0
question_of room question.InFlight = InFlight
question_of room question.IsDue = IsDue
question_of room question.BlocksLeft = BlocksLeft
question_of room (question.ViewOf o now) = ViewOf o.0 now
question_of room (question.OpenBetween a b) = OpenBetween a b (room / 2)
question_of room (question.NearestOpen o) = NearestOpen o.0

abbrev pub ask_of : ℕ → code-ask.Ask → Ask
ask_of room (asks.Claim o now) = claim o.0 now
ask_of room (asks.Ack t) = ack t.offset.0 t.generation.0
ask_of room (asks.Term t) = term t.offset.0 t.generation.0
ask_of room (asks.Nack t now d) = nack t.offset.0 t.generation.0 now (delay_of d)
ask_of room (asks.Progress t now) = progress t.offset.0 t.generation.0 now
ask_of room (asks.Commit bound) = commit bound.0
ask_of room (asks.Look q) = look (question_of room q)

abbrev pub call_of : ℕ → code_call.Call → Call
call_of room (calls.Ask w q) = ask w (ask_of room q)
call_of room (calls.Begin w) = begin w
call_of room calls.Step = step
call_of room calls.Restart = restart

-- ## answers
-- the first n places of lent memory, 0 past its end
abbrev pub first_places : ℕ → List ℕ → List ℕ
first_places n out = take n (out ++ replicate n 0)

-- the generation, attempt start, deadline and deliveries of a lease, or nothing
abbrev pub lease_told : std.Option LeaseFigures → List ℕ
lease_told (Some l) = l.generation.0 ∷ l.attempt_start ∷ l.deadline ∷ l.deliveries ∷ []
lease_told None = []

-- what a reply tells, a list standing in the first places of `out`
abbrev pub told_by : Reply → List ℕ → List ℕ
told_by (reply.Waiting n) out = first_places n out
told_by (reply.Committed o) out = o.0 ∷ []
told_by (reply.IsSettled b) out = bit b ∷ []
told_by (reply.LeaseOf l) out = lease_told l
told_by (reply.CountOf n) out = n ∷ []
told_by (reply.InFlight n) out = n ∷ []
told_by (reply.IsDue d) out = bit d.ceiling ∷ bit d.threshold ∷ []
told_by (reply.BlocksLeft n) out = n ∷ []
told_by (reply.ViewOf v) out = view_values (view_in v)
told_by (reply.OpenBetween n) out = first_places n out
told_by (reply.NearestOpen o) out = o.0 ∷ []

-- what a question is answered
abbrev pub reply_of : std.Result Reply Refusal → List ℕ → Result (List ℕ)
reply_of a out = result_of (λ r. told_by r out) a

-- the arguments of a call; those that it hasn't are 0, none and the question for committed
pub record Arguments : Type 0 where
  -- or the bound, or the first of two
  pub offset : ℕ
  pub generation : ℕ
  -- or the second bound
  pub clock : ℕ
  pub delay : Option ℕ
  pub room : ℕ
  pub question : Question

abbrev pub arguments : ℕ → ℕ → ℕ → Option ℕ → Arguments
arguments o g now d = record { offset = o; generation = g; clock = now; delay = d; room = 0; question = Committed }

abbrev pub no_arguments : Arguments
no_arguments = arguments 0 0 0 none

-- those of a question: the question itself, with its offset, its clock and its room
abbrev pub asking : Question → ℕ → ℕ → ℕ → Arguments
asking q o now room = record { offset = o; generation = 0; clock = now; delay = none; room = room; question = q }

abbrev pub arguments_in : Question → Arguments
arguments_in (Waiting now room) = asking (Waiting now room) 0 now room
arguments_in Committed = asking Committed 0 0 0
arguments_in (IsSettled o) = asking (IsSettled o) o 0 0
arguments_in (LeaseOf o) = asking (LeaseOf o) o 0 0
arguments_in (CountOf o) = asking (CountOf o) o 0 0
arguments_in InFlight = asking InFlight 0 0 0
arguments_in IsDue = asking IsDue 0 0 0
arguments_in BlocksLeft = asking BlocksLeft 0 0 0
arguments_in (ViewOf o now) = asking (ViewOf o now) o now 0
arguments_in (OpenBetween a b room) = asking (OpenBetween a b room) a b room
arguments_in (NearestOpen o) = asking (NearestOpen o) o 0 0
arguments_in (Plan os room) = asking (Plan os room) 0 0 room
arguments_in (Export cursorRoom attemptRoom) = asking (Export cursorRoom attemptRoom) 0 0 0

abbrev pub arguments_of : Ask → Arguments
arguments_of (claim o now) = arguments o 0 now none
arguments_of (ack o g) = arguments o g 0 none
arguments_of (term o g) = arguments o g 0 none
arguments_of (nack o g now d) = arguments o g now d
arguments_of (progress o g now) = arguments o g now none
arguments_of (commit bound) = arguments bound 0 0 none
arguments_of (look q) = arguments_in q

-- the question that a reply answers
abbrev pub asked_in : Arguments → Reply → Question
asked_in g (reply.Waiting n) = Waiting g.clock g.room
asked_in g (reply.Committed o) = Committed
asked_in g (reply.IsSettled b) = IsSettled g.offset
asked_in g (reply.LeaseOf l) = LeaseOf g.offset
asked_in g (reply.CountOf n) = CountOf g.offset
asked_in g (reply.InFlight n) = InFlight
asked_in g (reply.IsDue d) = IsDue
asked_in g (reply.BlocksLeft n) = BlocksLeft
asked_in g (reply.ViewOf v) = ViewOf g.offset g.clock
asked_in g (reply.OpenBetween n) = OpenBetween g.offset g.clock g.room
asked_in g (reply.NearestOpen o) = NearestOpen g.offset

-- the question that was answered; a refusal is an answer to whatever was asked
abbrev pub asked_by : Arguments → std.Result Reply Refusal → Question
asked_by g (Ok r) = asked_in g r
asked_by g (Err f) = g.question

-- what is seen of a call on the state: its arguments with its answer, which also says what kind of call it was
abbrev pub seen_of : Arguments → AskAnswer → List ℕ → Event
seen_of g (answer.Claimed a) out = claimed g.offset g.clock (claim_of a)
seen_of g (answer.Acked a) out = acked g.offset g.generation (settle_of a)
seen_of g (answer.Termed a) out = termed g.offset g.generation (settle_of a)
seen_of g (answer.Nacked a) out = nacked g.offset g.generation g.clock g.delay (nack_of a)
seen_of g (answer.Progressed a) out = progressed g.offset g.generation g.clock (progress_of a)
seen_of g (answer.Committed a) out = committed g.offset (commit_of a)
seen_of g (answer.Looked a) out = looked (asked_by g a) (reply_of a out)

-- a refusal and a question give back the very thing that was handed in, and so does a commit that moves nothing
abbrev pub AskKept : {T : Type 0} → AskAnswer → T → T → Type 0
AskKept (answer.Claimed a) before after = Kept (claim_of a) before after
AskKept (answer.Acked a) before after = Kept (settle_of a) before after
AskKept (answer.Termed a) before after = Kept (settle_of a) before after
AskKept (answer.Nacked a) before after = Kept (nack_of a) before after
AskKept (answer.Progressed a) before after = Kept (progress_of a) before after
AskKept (answer.Committed a) before after = Unmoved (commit_of a) before after
AskKept (answer.Looked a) before after = after ≡ before

-- ## the lent list
-- a list that was answered into lent memory
abbrev pub answered_list : Result (List ℕ) → List ℕ
answered_list (refused r) = []
answered_list (done l) = l

-- the waiting list and the stretches are answered so
abbrev pub list_in : Question → Result (List ℕ) → List ℕ
list_in (Waiting now room) a = answered_list a
list_in Committed a = []
list_in (IsSettled o) a = []
list_in (LeaseOf o) a = []
list_in (CountOf o) a = []
list_in InFlight a = []
list_in IsDue a = []
list_in BlocksLeft a = []
list_in (ViewOf o now) a = []
list_in (OpenBetween a b room) r = answered_list r
list_in (NearestOpen o) a = []
list_in (Plan os room) a = []
list_in (Export cursorRoom attemptRoom) a = []

abbrev pub list_seen : Event → List ℕ
list_seen (claimed o now a) = []
list_seen (acked o g a) = []
list_seen (termed o g a) = []
list_seen (nacked o g now d a) = []
list_seen (progressed o g now a) = []
list_seen (committed bound a) = []
list_seen (looked q a) = list_in q a
list_seen (begun a) = []
list_seen (stepped a) = []
list_seen (restarted a) = []
list_seen (failed new) = []

-- a list from the first place on, later places as they were
abbrev pub filled_with : List ℕ → List ℕ → List ℕ
filled_with l out = l ++ drop (length l) out

-- the lent list after a call
abbrev pub out_after : Option After → List ℕ → List ℕ
out_after none out = out
out_after (some t) out = filled_with (list_seen t.event) out
