-- Demand 3 of machines, journals and answers as the code has them: what a program does through `Machine::start`, `Machine::off`,
-- `call`, `Machine::plan`, `Machine::export` and `cut`, one after the other, in the words of their contracts.
-- SPEC.md, "Lists".
use Rattle.std.specs.Prelude.{ℕ, ◌≡◌, true, false, List, [], ◌∷◌, eqb, length, replicate, Ok}
use Rattle.std.specs.Prelude as std
use Rattle.std.proofs.Math.Option.{Option, none, some}
use Rattle.types.specs.Refusal.{Refusal}
use Rattle.types.specs.declared.refusals.Refusal as code
use Rattle.consumer.specs.Export.{Snapshots}
use Rattle.consumer.specs.Questions.{Plan, export_to}
use Rattle.consumer.specs.declared.Configuration.{Configuration}
use Rattle.consumer.specs.declared.snapshots.Lengths.{Lengths}
use Rattle.starts.specs.Starting.{configuration_of, start_fault}
use Rattle.machine.specs.Calls.{ask, step, restart, look, u64, question_fits, Event}
use Rattle.machine.specs.Transitions.{After}
use Rattle.machine.specs.Answers.{call_of}
use Rattle.machine.specs.View.{phase_of, Sound, StartedIs, OffIs, after_of, CalledIs, planned_of, PlannedIs, exported_of, ExportedIs}
use Rattle.machine.specs.declared.calls.Call.{Call}
use Rattle.machine.specs.declared.calls.CallAnswer.TheVariants as answer
use Rattle.machine.specs.declared.Machine.{Machine}
use Rattle.machine.specs.declared.Called.{Called}
use Rattle.machine.specs.declared.Started.{Started}
use Rattle.power_cut.specs.View as power
use Rattle.power_cut.specs.View.{cut_of, CutIs}
use Rattle.power_cut.specs.declared.Kind.{Kind}
use Rattle.power_cut.specs.declared.Failed.{Failed}
use Rattle.crash_safety.specs.Runs.{Item, call, step_on, cut, world, run, ends}
use Rattle.crash_safety.specs.Book.{empty_book}
use Rattle.crash_safety.specs.Demand3.{restarts_in, limit_of, threshold_of, Limited, Holds}
use Rattle.crash_safety.specs.Batch.{WithinBatch}

-- what is seen, in front of what is seen after it; of a call answered NotNow nothing is
abbrev pub seen : Option After → List Event → List Event
seen none es = es
seen (some t) es = t.event ∷ es

-- from a machine and its journal to what a program leaves of both, over the items that it makes and the events that it sees. What
-- a contract requires stands in front of what it says
pub data Ran : Machine → List ℕ → List Item → List Event → Machine → List ℕ → Type 0 where
  rests : {m : Machine} {a : List ℕ} → Ran m a [] [] m a
  -- a call, lent the journal and a list
  calls : {m last : Machine} {a end : List ℕ} {is : List Item} {es : List Event}
      (q : Call) (out : List ℕ) (r : Called) (a' out' : List ℕ)
      → (Sound m → CalledIs m (call_of (length out) q) a out r a' out')
      → Ran r.machine a' is es last end
      → Ran m a (call (call_of (length out) q) ∷ is) (seen (after_of (call_of (length out) q) r.answer r.machine a' out') es) last end
  -- a step, lent memory of another length than the journal's
  strays : {m last : Machine} {a end : List ℕ} {is : List Item} {es : List Event}
      (b out : List ℕ) (r : Called) (b' out' : List ℕ) → eqb (length b) (length a) ≡ false
      → (Sound m → CalledIs m step b out r b' out')
      → Ran r.machine a is es last end
      → Ran m a (step_on b ∷ is) (seen (after_of step r.answer r.machine b' out') es) last end
  -- a plan, lent a list of offsets, which are u64 as the worker is, and a list of bytes
  plans : {m last : Machine} {a end : List ℕ} {is : List Item} {es : List Event}
      (w : ℕ) (os out : List ℕ) (r : std.Option (std.Result ℕ code.Refusal)) (out' : List ℕ) → u64 w ≡ true → question_fits (Plan os (length out)) ≡ true
      → (Sound m → PlannedIs m w os out r out')
      → Ran m a is es last end
      → Ran m a (call (ask w (look (Plan os (length out)))) ∷ is) (seen (planned_of r m os (length out) out' a) es) last end
  -- an export, lent two lists of bytes
  exports : {m last : Machine} {a end : List ℕ} {is : List Item} {es : List Event}
      (w : ℕ) (out : Snapshots) (r : std.Option (std.Result Lengths code.Refusal)) (out' : Snapshots) → u64 w ≡ true
      → (Sound m → ExportedIs m w out r out')
      → Ran m a is es last end
      → Ran m a (call (ask w (look (export_to out))) ∷ is) (seen (exported_of r m out out' a) es) last end
  -- a power failure in a step, lent the journal
  cuts : {m last : Machine} {a end : List ℕ} {is : List Item} {es : List Event}
      (k : Kind) (bytes : List ℕ) (r : Failed) (a' : List ℕ)
      → (Sound m → CutIs m (cut_of k bytes) a r a')
      → Ran r.machine a' is es last end
      → Ran m a (cut (cut_of k bytes) ∷ is) (seen (power.after_of r.answer r.machine a') es) last end
  -- the program ends at any point and is started anew: a machine that is off, with the same configuration, goes on from the journal
  reopens : {m last : Machine} {a end : List ℕ} {is : List Item} {es : List Event}
      (m' : Machine) (out : List ℕ) (r : Called) (a' out' : List ℕ) → OffIs m.configuration m'
      → (Sound m' → CalledIs m' restart a out r a' out') → r.answer ≡ answer.Restarted (Ok tt)
      → Ran r.machine a' is es last end
      → Ran m a (call restart ∷ is) (seen (after_of restart r.answer r.machine a' out') es) last end

-- ## it is the run
pub record IsRun (m : Machine) (a : List ℕ) (is : List Item) (es : List Event) (last : Machine) (end : List ℕ) : Type 0 where
  -- what the program saw is what is seen of the list, and it leaves who can be called then, and the journal
  pub sees : run (configuration_of m.configuration) (world (phase_of m) a) is ≡ es
  pub leaves : ends (configuration_of m.configuration) (world (phase_of m) a) is ≡ world (phase_of last) end
  pub configuration : last.configuration ≡ m.configuration
  -- the next contract can be used too
  pub sound : Sound last

-- what a program does through `machine` and `power_cut` is a list
unfoldable pub RanIsRun : Type 0
RanIsRun =
    (m : Machine) (a : List ℕ) (is : List Item) (es : List Event) (last : Machine) (end : List ℕ) → Sound m → Ran m a is es last end
    → IsRun m a is es last end

-- ## so demand 3 and the bound over the batch hold of it
pub record HoldsRan (s : Configuration) (is : List Item) (es : List Event) (last : Machine) (end : List ℕ) : Type 0 where
  pub holds : Holds (configuration_of s) empty_book (restarts_in is) es
  pub batch : Limited (configuration_of s) → WithinBatch (limit_of (configuration_of s)) (threshold_of (configuration_of s)) (restarts_in is) es
  -- and no machine that is off is refused to go on from the journal
  pub reopened : (m : Machine) (out : List ℕ) (r : Called) (a' out' : List ℕ) → OffIs s m
      → (Sound m → CalledIs m restart end out r a' out')
      → (x : std.Result (Unit {0}) code.Refusal) (f : Refusal) → r.answer ≡ answer.Restarted x → start_fault x ≡ some f → ⊥

-- so demand 3 holds of every program. From every machine that a start gave, on a zeroed journal
unfoldable pub Demand3Ran : Type 0
Demand3Ran =
    (s : Configuration) (size : ℕ) (r : Started) → StartedIs s size r → r.answer ≡ Ok tt
    → (is : List Item) (es : List Event) (last : Machine) (end : List ℕ) → Ran r.machine (replicate size 0) is es last end
    → HoldsRan s is es last end
