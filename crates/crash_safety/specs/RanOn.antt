-- Demand 3 of machines and answers as the code has them, on a disk that keeps no order between two syncs: what a program does through
-- `Machine::start`, `Machine::off`, `call` and `Machine::plan` in the words of their contracts, with a sync wherever one is due.
-- SPEC.md, "Disk".
use Rattle.std.specs.Prelude.{ℕ, ◌≡◌, true, false, List, [], ◌∷◌, ◌++◌, eqb, length, replicate, Ok}
use Rattle.std.specs.Prelude as std
use Rattle.std.proofs.Math.Option.{some}
use Rattle.types.specs.Refusal.{Refusal}
use Rattle.types.specs.declared.refusals.Refusal as code
use Rattle.consumer.specs.Questions.{Plan}
use Rattle.consumer.specs.declared.Configuration.{Configuration}
use Rattle.checkpoint.specs.Writing.{step_of}
use Rattle.checkpoint.specs.declared.Wrote.{Wrote}
use Rattle.starts.specs.Starting.{configuration_of, start_fault}
use Rattle.machine.specs.Calls.{ask, step, restart, look, u64, question_fits, Event, failed}
use Rattle.machine.specs.Answers.{call_of}
use Rattle.machine.specs.View.{phase_of, Sound, StartedIs, OffIs, after_of, CalledIs, planned_of, PlannedIs}
use Rattle.machine.specs.declared.calls.Call.{Call}
use Rattle.machine.specs.declared.calls.CallAnswer.TheVariants as answer
use Rattle.machine.specs.declared.Machine.{Machine}
use Rattle.machine.specs.declared.Called.{Called}
use Rattle.machine.specs.declared.Started.{Started}
use Rattle.power_cut.specs.Cut.{Cut}
use Rattle.crash_safety.specs.Ran.{seen}
use Rattle.crash_safety.specs.Disk.{Disk, disk, area, synced, has_header, answers, survivors, failed_by}
use Rattle.crash_safety.specs.Unordered.{DiskItem, does, steps_on, syncs, fails, on_disk, is_on_state, step_seen, with_block, too_early, run_on, ends_on, restarts_on, HoldsOn}

-- from a machine and its disk to what a program leaves of both, over the items that it makes and the events that are seen. Each call is lent
-- what the process sees of the disk. What a contract requires stands in front of what it says
pub data RanOn : Machine → Disk → List DiskItem → List Event → Machine → Disk → Type 0 where
  rests : {m : Machine} {d : Disk} → RanOn m d [] [] m d
  -- a call on the state, while no header is pending
  asks : {m last : Machine} {d end : Disk} {is : List DiskItem} {es : List Event}
      (q : Call) (out : List ℕ) (r : Called) (a' out' : List ℕ) → is_on_state (call_of (length out) q) ≡ true → has_header d.pending ≡ false
      → (Sound m → CalledIs m (call_of (length out) q) (area d) out r a' out')
      → RanOn r.machine d is es last end
      → RanOn m d (does (call_of (length out) q) ∷ is) (seen (after_of (call_of (length out) q) r.answer r.machine a' out') es) last end
  -- a plan, likewise; its numbers are u64
  plans : {m last : Machine} {d end : Disk} {is : List DiskItem} {es : List Event}
      (w : ℕ) (os out : List ℕ) (r : std.Option (std.Result ℕ code.Refusal)) (out' : List ℕ) → u64 w ≡ true → question_fits (Plan os (length out)) ≡ true
      → has_header d.pending ≡ false
      → (Sound m → PlannedIs m w os out r out')
      → RanOn m d is es last end
      → RanOn m d (does (ask w (look (Plan os (length out)))) ∷ is) (seen (planned_of r m os (length out) out' (area d)) es) last end
  -- a step, the header's only when nothing is pending; its block is written to the disk
  steps : {m last : Machine} {d end : Disk} {is : List DiskItem} {es : List Event}
      (out : List ℕ) (r : Called) (a' out' : List ℕ) (x : std.Result Wrote code.Refusal) → too_early (phase_of m) d ≡ false
      → (Sound m → CalledIs m step (area d) out r a' out') → r.answer ≡ answer.Stepped x
      → RanOn r.machine (with_block d (step_of x) a') is es last end
      → RanOn m d (does step ∷ is) (step_seen (step_of x) ++ es) last end
  -- one that can't be made
  steps_not : {m last : Machine} {d end : Disk} {is : List DiskItem} {es : List Event}
      (out : List ℕ) (r : Called) (a' out' : List ℕ)
      → (Sound m → CalledIs m step (area d) out r a' out') → r.answer ≡ answer.NotNow
      → RanOn r.machine d is es last end
      → RanOn m d (does step ∷ is) es last end
  -- one that is lent memory of another length
  strays : {m last : Machine} {d end : Disk} {is : List DiskItem} {es : List Event}
      (b out : List ℕ) (r : Called) (b' out' : List ℕ) → eqb (length b) (length (area d)) ≡ false → has_header d.pending ≡ false
      → (Sound m → CalledIs m step b out r b' out')
      → RanOn r.machine d is es last end
      → RanOn m d (steps_on b ∷ is) (seen (after_of step r.answer r.machine b' out') es) last end
  -- a sync
  makes_durable : {m last : Machine} {d end : Disk} {is : List DiskItem} {es : List Event}
      → RanOn m (synced d) is es last end
      → RanOn m d (syncs ∷ is) (answers d.pending ++ es) last end
  -- the power fails, and the program goes on with a machine that is off
  loses_power : {m last : Machine} {d end : Disk} {is : List DiskItem} {es : List Event}
      (ks : List Cut) (m' : Machine) → OffIs m.configuration m'
      → RanOn m' (failed_by d ks) is es last end
      → RanOn m d (fails ks ∷ is) (failed (has_header (survivors d.pending ks)) ∷ es) last end
  -- a sync, and a restart
  restarts : {m last : Machine} {d end : Disk} {is : List DiskItem} {es : List Event}
      (out : List ℕ) (r : Called) (a' out' : List ℕ)
      → (Sound m → CalledIs m restart (area d) out r a' out')
      → RanOn r.machine (synced d) is es last end
      → RanOn m d (does restart ∷ is) (answers d.pending ++ seen (after_of restart r.answer r.machine a' out') es) last end
  -- the program ends at any point and is started anew: a machine that is off, with the same configuration, does so
  reopens : {m last : Machine} {d end : Disk} {is : List DiskItem} {es : List Event}
      (m' : Machine) (out : List ℕ) (r : Called) (a' out' : List ℕ) → OffIs m.configuration m'
      → (Sound m' → CalledIs m' restart (area d) out r a' out') → r.answer ≡ answer.Restarted (Ok tt)
      → RanOn r.machine (synced d) is es last end
      → RanOn m d (does restart ∷ is) (answers d.pending ++ seen (after_of restart r.answer r.machine a' out') es) last end

-- ## it is the run
pub record IsRunOn (m : Machine) (d : Disk) (is : List DiskItem) (es : List Event) (last : Machine) (end : Disk) : Type 0 where
  -- what was seen is what is seen of the list, and the program leaves who can be called then, and the disk
  pub sees : run_on (configuration_of m.configuration) (on_disk (phase_of m) d) is ≡ es
  pub leaves : ends_on (configuration_of m.configuration) (on_disk (phase_of m) d) is ≡ on_disk (phase_of last) end
  pub configuration : last.configuration ≡ m.configuration
  -- the next contract can be used too
  pub sound : Sound last

-- what a program does with two syncs a checkpoint is a list on the disk
unfoldable pub RanOnIsRun : Type 0
RanOnIsRun =
    (m : Machine) (d : Disk) (is : List DiskItem) (es : List Event) (last : Machine) (end : Disk) → Sound m → RanOn m d is es last end
    → IsRunOn m d is es last end

-- ## so demand 3 and the bound over the batch hold of it
pub record HoldsRanOn (s : Configuration) (is : List DiskItem) (es : List Event) (last : Machine) (end : Disk) : Type 0 where
  pub holds : HoldsOn (configuration_of s) (restarts_on is) es
  -- and no machine that is off is refused to go on from what is there after a sync
  pub reopened : (m : Machine) (out : List ℕ) (r : Called) (a' out' : List ℕ) → OffIs s m
      → (Sound m → CalledIs m restart (area end) out r a' out')
      → (x : std.Result (Unit {0}) code.Refusal) (f : Refusal) → r.answer ≡ answer.Restarted x → start_fault x ≡ some f → ⊥

-- so demand 3 holds of every such program. From every machine that a start gave, on a zeroed disk
unfoldable pub UnorderedRan : Type 0
UnorderedRan =
    (s : Configuration) (size : ℕ) (r : Started) → StartedIs s size r → r.answer ≡ Ok tt
    → (is : List DiskItem) (es : List Event) (last : Machine) (end : Disk) → RanOn r.machine (disk (replicate size 0) []) is es last end
    → HoldsRanOn s is es last end
