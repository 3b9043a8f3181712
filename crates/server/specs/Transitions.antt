-- What the functions that Rust calls make of a state and of lent memory: what the transition makes, in numbers.
-- SPEC.md, "Interface".
use Rattle.std.specs.Prelude.{ℕ, zero, suc, ◌≡◌, List, [], length}
use Rattle.std.proofs.Math.Option.{Option, none, some}
use Rattle.types.specs.Refusal.{Result, refused, done}
use Rattle.types.specs.Refusal as refusal
use Rattle.types.specs.Table.{Kept}
use Rattle.consumer.specs.State.{State}
use Rattle.consumer.specs.Questions.{bit, Plan, bytes_after, export}
use Rattle.consumer.specs.Questions as questions
use Rattle.consumer.specs.Export.{Snapshots, exported, snapshots_after}
use Rattle.consumer.specs.View.{view, Unmoved}
use Rattle.consumer.specs.View as consumer
use Rattle.consumer.specs.declared.Consumer.{Consumer}
use Rattle.consumer.specs.declared.Configuration.{Configuration}
use Rattle.checkpoint.specs.Checkpoint.{sync_due}
use Rattle.starts.specs.Restart as restarts
use Rattle.starts.specs.Import.{import}
use Rattle.starts.specs.Starting.{configuration_of}
use Rattle.machine.specs.Calls.{Ask, Call, Event, claimed, acked, termed, nacked, progressed, committed, looked, begun, stepped, restarted, failed}
use Rattle.machine.specs.Transitions.{Phase, idle, writing, off, After, on_state, asked, transition}
use Rattle.machine.specs.Answers.{out_after}
use Rattle.machine.specs.View.{phase_of, Sound, OffIs, held, plan_after, plan_bytes_in, export_after, snapshots_in}
use Rattle.machine.specs.declared.Machine.{Machine}
use Rattle.answers.specs.Numbers.{numbers_of, not_now, no_values, values, numbers_in}
use Rattle.server.specs.Kinds.{ask_at, call_at}
use Rattle.answers.specs.declared.Numbers.{Numbers}

-- ## what a call made, `none` where it can't be made or is no call
abbrev pub on_ask : Option Ask → (Ask → Option After) → Option After
on_ask none f = none
on_ask (some q) f = f q

abbrev pub on_call : Option Call → (Call → Option After) → Option After
on_call none f = none
on_call (some q) f = f q

abbrev pub phase_in : Phase → Option After → Phase
phase_in p none = p
phase_in p (some t) = t.phase

abbrev pub area_in : List ℕ → Option After → List ℕ
area_in a none = a
area_in a (some t) = t.area

-- the answer, who can be called next, and the lent memory
pub record Answered : Type 0 where
  pub numbers : Numbers
  pub phase : Phase
  pub area : List ℕ
  pub out : List ℕ

abbrev pub answered_with : Numbers → Phase → List ℕ → List ℕ → Answered
answered_with n p a out = record { numbers = n; phase = p; area = a; out = out }

abbrev pub answered_by : Phase → List ℕ → List ℕ → Option After → Answered
answered_by p a out t = answered_with (numbers_in t) (phase_in p t) (area_in a t) (out_after t out)

-- a refusal, a question and a call that can't be made give back the very thing that was handed in
abbrev pub KeptBy : {T : Type 0} → Event → T → T → Type 0
KeptBy (claimed o now r) before after = Kept r before after
KeptBy (acked o g r) before after = Kept r before after
KeptBy (termed o g r) before after = Kept r before after
KeptBy (nacked o g now d r) before after = Kept r before after
KeptBy (progressed o g now r) before after = Kept r before after
KeptBy (committed bound r) before after = Unmoved r before after
KeptBy (looked q r) before after = after ≡ before
KeptBy (begun r) before after = Kept r before after
KeptBy (stepped r) before after = Kept r before after
KeptBy (restarted r) before after = Kept r before after
KeptBy (failed new) before after = Unit {0}

abbrev pub KeptIn : {T : Type 0} → Option After → T → T → Type 0
KeptIn none before after = after ≡ before
KeptIn (some t) before after = KeptBy t.event before after

-- ## a call of worker w on the state, with whatever area
abbrev pub ask_after : Consumer → ℕ → ℕ → ℕ → ℕ → ℕ → ℕ → List ℕ → List ℕ → Option After
ask_after s w kind a b c d out area = on_ask (ask_at kind a b c d (length out)) (asked (view s) area w)

pub record AnswersAsk (before : Consumer) (w kind a b c d : ℕ) (out : List ℕ) (n : Numbers) (after : Consumer) (out' : List ℕ) : Type 0 where
  pub is : (area : List ℕ) → answered_with n (idle (view after)) area out' ≡ answered_by (idle (view before)) area out (ask_after before w kind a b c d out area)
  pub sound : consumer.Sound after
  pub kept : KeptIn (ask_after before w kind a b c d out []) before after

-- nothing happened
abbrev pub Declined : {T : Type 0} → Consumer → T → Numbers → Consumer → T → Type 0
Declined before out n after out' = (n ≡ not_now) × (after ≡ before) × (out' ≡ out)

-- by the number of the phase: only where the consumer can be called
abbrev pub SoundIf : ℕ → Consumer → Type 0
SoundIf zero s = consumer.Sound s
SoundIf (suc n) s = Unit {0}

abbrev pub AskedOn : ℕ → Consumer → ℕ → ℕ → ℕ → ℕ → ℕ → ℕ → List ℕ → Numbers → Consumer → List ℕ → Type 0
AskedOn zero before w kind a b c d out n after out' = AnswersAsk before w kind a b c d out n after out'
AskedOn (suc k) before w kind a b c d out n after out' = Declined before out n after out'

-- the machine with another consumer in its place
abbrev pub holding : Machine → Consumer → Machine
holding m s =
    record {
      configuration = m.configuration;
      phase = m.phase;
      writing = record {
        consumer = s;
        written = m.writing.written;
        payload = m.writing.payload;
        cursor_len = m.writing.cursor_len;
        attempt_len = m.writing.attempt_len;
      };
    }

-- what the transition makes of it
abbrev pub ask_after_of : Machine → ℕ → ℕ → ℕ → ℕ → ℕ → ℕ → List ℕ → List ℕ → Option After
ask_after_of m w kind a b c d out area =
    on_ask (ask_at kind a b c d (length out)) (λ q. on_state (phase_of m) (λ s. asked s area w q))

pub record AskIs (before : Machine) (w kind a b c d : ℕ) (out : List ℕ) (n : Numbers) (after : Machine) (out' : List ℕ) : Type 0 where
  pub is : (area : List ℕ) → answered_with n (phase_of after) area out' ≡ answered_by (phase_of before) area out (ask_after_of before w kind a b c d out area)
  pub sound : Sound after
  pub configuration : after.configuration ≡ before.configuration
  pub kept : KeptIn (ask_after_of before w kind a b c d out []) before after

-- ## a call of worker w on the machine
abbrev pub call_after : Machine → ℕ → ℕ → ℕ → ℕ → ℕ → ℕ → List ℕ → List ℕ → Option After
call_after m w kind a b c d area out = on_call (call_at w kind a b c d (length out)) (transition (configuration_of m.configuration) (phase_of m) area)

pub record CallIs (before : Machine) (w kind a b c d : ℕ) (area out : List ℕ) (n : Numbers) (after : Machine) (area' out' : List ℕ) : Type 0 where
  pub is : answered_with n (phase_of after) area' out' ≡ answered_by (phase_of before) area out (call_after before w kind a b c d area out)
  pub sound : Sound after
  pub configuration : after.configuration ≡ before.configuration
  pub kept : KeptIn (call_after before w kind a b c d area out) (held before area) (held after area')

-- ## whether a sync is due after the next step's write, 1 or 0: a record that is out says so
abbrev pub due_next : Phase → ℕ
due_next (idle s) = 0
due_next (writing w) = bit (sync_due w)
due_next off = 0

-- ## a plan of worker w, which leaves who is asked as it was
pub record AnswersPlan (before : Consumer) (w : ℕ) (os out : List ℕ) (n : Numbers) (after : Consumer) (out' : List ℕ) : Type 0 where
  pub is : n ≡ numbers_of (refusal.answered values (questions.look (view before) w (Plan os (length out))))
  pub bytes : out' ≡ bytes_after (questions.look (view before) w (Plan os (length out))) out
  pub kept : after ≡ before

abbrev pub PlannedOn : ℕ → Consumer → ℕ → List ℕ → List ℕ → Numbers → Consumer → List ℕ → Type 0
PlannedOn zero before w os out n after out' = AnswersPlan before w os out n after out'
PlannedOn (suc k) before w os out n after out' = Declined before out n after out'

-- on the machine, with whatever area
pub record PlanIs (before : Machine) (w : ℕ) (os out : List ℕ) (n : Numbers) (after : Machine) (out' : List ℕ) : Type 0 where
  pub is : (area : List ℕ) → n ≡ numbers_in (plan_after (phase_of before) area w os out)
  pub bytes : out' ≡ plan_bytes_in (phase_of before) w os out
  pub kept : after ≡ before

-- ## an export of worker w, which leaves who is asked as it was
pub record AnswersExport (before : Consumer) (w : ℕ) (out : Snapshots) (n : Numbers) (after : Consumer) (out' : Snapshots) : Type 0 where
  pub is : n ≡ numbers_of (refusal.answered values (export (view before) w out))
  pub lists : out' ≡ snapshots_after (export (view before) w out) (exported (view before)) out
  pub kept : after ≡ before

abbrev pub ExportedOn : ℕ → Consumer → ℕ → Snapshots → Numbers → Consumer → Snapshots → Type 0
ExportedOn zero before w out n after out' = AnswersExport before w out n after out'
ExportedOn (suc k) before w out n after out' = Declined before out n after out'

-- on the machine, with whatever area
pub record ExportIs (before : Machine) (w : ℕ) (out : Snapshots) (n : Numbers) (after : Machine) (out' : Snapshots) : Type 0 where
  pub is : (area : List ℕ) → n ≡ numbers_in (export_after (phase_of before) area w out)
  pub lists : out' ≡ snapshots_in (phase_of before) w out
  pub kept : after ≡ before

-- ## off
-- the configuration and the phase are stored, and what else stood there stays
abbrev pub switched_off : Machine → Configuration → Machine
switched_off m s = record { configuration = s; phase = 2; writing = m.writing }

pub record SwitchedOff (before : Machine) (s : Configuration) (after : Machine) : Type 0 where
  pub is : after ≡ switched_off before s
  pub off : OffIs s after

-- ## a start and an import, whatever stood in the machine's place before
-- a machine with the state that was made, or beside a refusal the very thing that stood there
abbrev pub StartedAs : Result State → Configuration → Machine → Machine → Type 0
StartedAs (refused r) s before after = after ≡ before
StartedAs (done made) s before after = (phase_of after ≡ idle made) × (after.configuration ≡ s) × Sound after

pub record MadeIs (right : Result State) (before : Machine) (s : Configuration) (n : Numbers) (after : Machine) : Type 0 where
  pub is : n ≡ numbers_of (refusal.answered no_values right)
  pub made : StartedAs right s before after

abbrev pub StartIs : Machine → Configuration → (size : ℕ) → Numbers → Machine → Type 0
StartIs before s size n after = MadeIs (restarts.start (configuration_of s) size) before s n after

abbrev pub ImportIs : Machine → Configuration → (size first : ℕ) (cursor attempts : List ℕ) → Numbers → Machine → Type 0
ImportIs before s size first cursor attempts n after = MadeIs (import (configuration_of s) size first cursor attempts) before s n after
