-- What the code's machine stands for, its invariant, and the parts of the contracts.
-- SPEC.md, "Lists".
use Rattle.std.specs.Prelude.{ℕ, zero, suc, ◌≡◌, cond, List, length, Some, None}
use Rattle.std.specs.Prelude as std
use Rattle.std.proofs.Math.Option.{Option, none}
use Rattle.types.specs.Refusal.{Result, refused, done}
use Rattle.types.specs.Refused.{as_is}
use Rattle.types.specs.Table.{Kept}
use Rattle.types.specs.declared.refusals.Refusal.{Refusal}
use Rattle.consumer.specs.State.{State}
use Rattle.consumer.specs.Questions.{Question, Plan, bytes_after, export_to, export}
use Rattle.consumer.specs.Questions as questions
use Rattle.consumer.specs.Export.{Snapshots, exported, snapshots_after}
use Rattle.consumer.specs.View.{view, plan_of, export_of}
use Rattle.consumer.specs.View as consumer
use Rattle.consumer.specs.declared.Consumer.{Consumer}
use Rattle.consumer.specs.declared.Configuration.{Configuration}
use Rattle.consumer.specs.declared.snapshots.Lengths.{Lengths}
use Rattle.checkpoint.specs.Writing.{view_writing, SoundWriting, step_of, is_finished}
use Rattle.checkpoint.specs.Parts.{unbegun}
use Rattle.checkpoint.specs.declared.Writing.{Writing}
use Rattle.checkpoint.specs.declared.Wrote.{Wrote}
use Rattle.starts.specs.Restart as restarts
use Rattle.starts.specs.Import.{import}
use Rattle.starts.specs.Starting.{configuration_of, kept_of, start_of, Beside}
use Rattle.machine.specs.Calls.{Ask, look, Call, ask, begin, step, restart, looked, begun, stepped, restarted}
use Rattle.machine.specs.Transitions.{Phase, idle, writing, off, After, gives, on_state, asked, transition}
use Rattle.machine.specs.Answers.{reply_of, Arguments, no_arguments, arguments_in, arguments_of, asked_by, seen_of, AskKept, filled_with, list_in, out_after}
use Rattle.machine.specs.declared.calls.Reply.{Reply}
use Rattle.machine.specs.declared.calls.Asked.{Asked}
use Rattle.machine.specs.declared.calls.CallAnswer.{CallAnswer}
use Rattle.machine.specs.declared.calls.CallAnswer.TheVariants as answer
use Rattle.machine.specs.declared.Machine.{Machine}
use Rattle.machine.specs.declared.Called.{Called}
use Rattle.machine.specs.declared.Started.{Started}

-- ## calls on the state
-- a worker's call: event and state are those that `asked` makes on whatever area, and the lent list is what the event says
pub record AskedIs (before : Consumer) (w : ℕ) (q : Ask) (out : List ℕ) (r : Asked) (out' : List ℕ) : Type 0 where
  pub is : (a : List ℕ) → gives (seen_of (arguments_of q) r.answer out') (idle (view r.consumer)) a ≡ asked (view before) a w q
  pub sound : consumer.Sound r.consumer
  pub kept : AskKept r.answer before r.consumer
  pub lists : (a : List ℕ) → out' ≡ out_after (asked (view before) a w q) out

-- a question that is answered so: the reply, which is to just this question, and the lent list
pub record LookedIs (right : Result (List ℕ)) (q : Question) (out : List ℕ) (r : std.Result Reply Refusal) (out' : List ℕ) : Type 0 where
  pub kind : asked_by (arguments_in q) r ≡ q
  pub is : reply_of r out' ≡ right
  pub lists : out' ≡ filled_with (list_in q right) out

-- ## the machine
-- who can be called, by the number of the phase: 0 the state, 1 the record, any other nobody
abbrev pub phase_at : ℕ → Writing → Phase
phase_at zero w = idle (view w.consumer)
phase_at (suc zero) w = writing (view_writing w)
phase_at (suc (suc n)) w = off

abbrev pub phase_of : Machine → Phase
phase_of m = phase_at m.phase m.writing

-- the invariant: that of who can be called
abbrev pub SoundAt : ℕ → Writing → Type 0
SoundAt zero w = consumer.Sound w.consumer
SoundAt (suc zero) w = SoundWriting w
SoundAt (suc (suc n)) w = Unit {0}

abbrev pub Sound : Machine → Type 0
Sound m = SoundAt m.phase m.writing

-- ## start and import
-- a machine in a phase, with its consumer
pub record Stands (s : Configuration) (n : ℕ) (c : Consumer) (m : Machine) : Type 0 where
  pub configuration : m.configuration ≡ s
  pub phase : m.phase ≡ n
  pub consumer : m.writing.consumer ≡ c

-- one that writes nothing
pub record Rests (s : Configuration) (n : ℕ) (c : Consumer) (m : Machine) : Type 0 where
  pub configuration : m.configuration ≡ s
  pub phase : m.phase ≡ n
  pub writing : m.writing ≡ unbegun c

-- the state that was made can be called; beside a refusal nobody can
abbrev pub started_as : Result State → Phase
started_as (refused r) = off
started_as (done s) = idle s

-- and the number of that phase
abbrev pub started_in : Result State → ℕ
started_in (refused r) = 2
started_in (done s) = 0

-- what was made for an area of so many bytes; the machine writes nothing, and beside a refusal it has the fresh consumer
pub record MadeIs (right : Result State) (s : Configuration) (size : ℕ) (r : Started) : Type 0 where
  pub is : start_of r.answer (view r.machine.writing.consumer) ≡ right
  pub phase : phase_of r.machine ≡ started_as right
  pub configuration : r.machine.configuration ≡ s
  pub sound : Sound r.machine
  pub rests : Rests s (started_in right) r.machine.writing.consumer r.machine
  pub beside : Beside right s size r.machine.writing.consumer

-- a start, and no more of it than an answer and who can be called
pub record StartedIs (s : Configuration) (size : ℕ) (r : Started) : Type 0 where
  pub is : start_of r.answer (view r.machine.writing.consumer) ≡ restarts.start (configuration_of s) size
  pub phase : phase_of r.machine ≡ started_as (restarts.start (configuration_of s) size)
  pub configuration : r.machine.configuration ≡ s
  pub sound : Sound r.machine

-- with the whole machine
abbrev pub StartMade : Configuration → (size : ℕ) → Started → Type 0
StartMade s size r = MadeIs (restarts.start (configuration_of s) size) s size r

abbrev pub ImportedIs : Configuration → (size first : ℕ) (cursor attempts : List ℕ) → Started → Type 0
ImportedIs s size first cursor attempts r = MadeIs (import (configuration_of s) size first cursor attempts) s size r

pub record OffIs (s : Configuration) (m : Machine) : Type 0 where
  pub phase : phase_of m ≡ off
  pub configuration : m.configuration ≡ s
  pub sound : Sound m

-- a machine that is made off: it writes nothing, and has the fresh consumer of no area
pub record MadeOff (s : Configuration) (m : Machine) : Type 0 where
  pub off : OffIs s m
  pub rests : Rests s 2 m.writing.consumer m
  pub fresh : view m.writing.consumer ≡ restarts.fresh (kept_of s) 0

-- ## the step function
-- the arguments of a call
abbrev pub given_to : Call → Arguments
given_to (ask w q) = arguments_of q
given_to (begin w) = no_arguments
given_to step = no_arguments
given_to restart = no_arguments

-- what an answer, the machine and the lent memory beside it stand for
abbrev pub after_of : Call → CallAnswer → Machine → List ℕ → List ℕ → Option After
after_of q (answer.Asked a) m area out = gives (seen_of (given_to q) a out) (phase_of m) area
after_of q (answer.Begun a) m area out = gives (begun (as_is a)) (phase_of m) area
after_of q (answer.Stepped a) m area out = gives (stepped (step_of a)) (phase_of m) area
after_of q (answer.Restarted a) m area out = gives (restarted (start_of a (view m.writing.consumer))) (phase_of m) area
after_of q answer.NotNow m area out = none

-- a refusal, a question and NotNow give back the very thing that was handed in
abbrev pub CallKept : {T : Type 0} → CallAnswer → T → T → Type 0
CallKept (answer.Asked a) before after = AskKept a before after
CallKept (answer.Begun a) before after = Kept (as_is a) before after
CallKept (answer.Stepped a) before after = Kept (step_of a) before after
CallKept (answer.Restarted a) before after = Kept (as_is a) before after
CallKept answer.NotNow before after = after ≡ before

-- a machine with the area that is lent to it
pub record Held : Type 0 where
  pub machine : Machine
  pub area : List ℕ

abbrev pub held : Machine → List ℕ → Held
held m a = record { machine = m; area = a }

-- a call: answer, machine and area are what the transition makes of machine, area and call, and the lent list is what the event says
pub record CalledIs (m : Machine) (q : Call) (a out : List ℕ) (r : Called) (a' out' : List ℕ) : Type 0 where
  pub is : after_of q r.answer r.machine a' out' ≡ transition (configuration_of m.configuration) (phase_of m) a q
  pub sound : Sound r.machine
  pub configuration : r.machine.configuration ≡ m.configuration
  pub kept : CallKept r.answer (held m a) (held r.machine a')
  pub lists : out' ≡ out_after (transition (configuration_of m.configuration) (phase_of m) a q) out

-- ## a plan, the question that is lent lists of its own
-- what the call makes of who can be called, on whatever area
abbrev pub plan_after : Phase → List ℕ → ℕ → List ℕ → List ℕ → Option After
plan_after p area w os out = on_state p (λ s. asked s area w (look (Plan os (length out))))

-- the lent byte list after it
abbrev pub plan_bytes_in : Phase → ℕ → List ℕ → List ℕ → List ℕ
plan_bytes_in (idle s) w os out = bytes_after (questions.look s w (Plan os (length out))) out
plan_bytes_in (writing r) w os out = out
plan_bytes_in off w os out = out

-- what an answer and the byte list beside it stand for; the machine is the one that was handed in
abbrev pub planned_of : std.Option (std.Result ℕ Refusal) → Machine → List ℕ → ℕ → List ℕ → List ℕ → Option After
planned_of (Some a) m os room out area = gives (looked (Plan os room) (plan_of a out)) (phase_of m) area
planned_of None m os room out area = none

pub record PlannedIs (m : Machine) (w : ℕ) (os out : List ℕ) (r : std.Option (std.Result ℕ Refusal)) (out' : List ℕ) : Type 0 where
  pub is : (area : List ℕ) → planned_of r m os (length out) out' area ≡ plan_after (phase_of m) area w os out
  pub bytes : out' ≡ plan_bytes_in (phase_of m) w os out

-- ## an export, the question that is lent two byte lists
-- what the call makes of who can be called, on whatever area
abbrev pub export_after : Phase → List ℕ → ℕ → Snapshots → Option After
export_after p area w out = on_state p (λ s. asked s area w (look (export_to out)))

-- the lent byte lists after it
abbrev pub snapshots_in : Phase → ℕ → Snapshots → Snapshots
snapshots_in (idle s) w out = snapshots_after (export s w out) (exported s) out
snapshots_in (writing r) w out = out
snapshots_in off w out = out

-- what an answer and the byte lists beside it stand for; the machine is the one that was handed in
abbrev pub exported_of : std.Option (std.Result Lengths Refusal) → Machine → (before after : Snapshots) → List ℕ → Option After
exported_of (Some a) m out out' area = gives (looked (export_to out) (export_of a out')) (phase_of m) area
exported_of None m out out' area = none

pub record ExportedIs (m : Machine) (w : ℕ) (out : Snapshots) (r : std.Option (std.Result Lengths Refusal)) (out' : Snapshots) : Type 0 where
  pub is : (area : List ℕ) → exported_of r m out out' area ≡ export_after (phase_of m) area w out
  pub lists : out' ≡ snapshots_in (phase_of m) w out

-- ## parts
-- the number of the phase that a step leaves
abbrev pub phaseAfter : std.Result Wrote Refusal → ℕ
phaseAfter r = cond (is_finished r) 0 1
