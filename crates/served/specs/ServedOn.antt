-- Demand 3 of a server on a disk that keeps no order between two syncs: what a program does through the exported functions, one after the
-- other, in the words of their contracts, with a sync wherever one is due.
-- SPEC.md, "Disk".
use Rattle.std.specs.Prelude.{ℕ, ◌≡◌, true, false, cond, List, [], ◌∷◌, ◌++◌, eqb, length, replicate}
use Rattle.std.proofs.Math.Option.{Option, none, some}
use Rattle.types.specs.Refusal.{done}
use Rattle.journal.specs.Area.{block_at}
use Rattle.consumer.specs.State.{State}
use Rattle.consumer.specs.State as state
use Rattle.consumer.specs.Questions.{Plan}
use Rattle.consumer.specs.declared.Configuration.{Configuration}
use Rattle.starts.specs.Starting.{configuration_of}
use Rattle.starts.specs.Restart.{start}
use Rattle.machine.specs.Calls.{Ask, ask, begin, step, restart, look, u64, all_fit, question_fits}
use Rattle.machine.specs.Transitions.{Phase, transition}
use Rattle.machine.specs.View.{phase_of, Sound, OffIs}
use Rattle.machine.specs.declared.Machine.{Machine}
use Rattle.answers.specs.Numbers.{numbers_in}
use Rattle.answers.specs.declared.Numbers.{Numbers}
use Rattle.power_cut.specs.Cut.{Cut}
use Rattle.server.specs.Kinds.{ask_at}
use Rattle.server.specs.Transitions.{AskIs, CallIs, PlanIs}
use Rattle.crash_safety.specs.Runs.{world, step_elsewhere}
use Rattle.crash_safety.specs.Book.{empty_book}
use Rattle.crash_safety.specs.Disk.{write, Disk, disk, area, synced, has_header, answers, failed_by}
use Rattle.crash_safety.specs.Unordered.{DiskItem, does, steps_on, syncs, fails, OnDisk, on_disk, Then, too_early, next_on, run_on, ends_on, fresh_disk, restarts_on, HoldsOn}
use Rattle.served.specs.Served.{FindsCopy, Begins}

-- what a server does after a step, by its answer in numbers: where the first is 0, the block that the third names is written to the disk as it
-- is in the lent area; the fourth says whether it is the header
abbrev pub written_by : Disk → Numbers → List ℕ → Disk
written_by d n a =
    cond (eqb n.0 0) (disk d.held (d.pending ++ (write n.2 (eqb n.3 1) (block_at a n.2) ∷ []))) d

-- from a machine and its disk to what a server leaves of both, over the items that it makes and the answers that it gets. Each call is lent
-- what the process sees of the disk. What a contract requires stands in front of what it says
pub data ServedOn : Machine → Disk → List DiskItem → List Numbers → Machine → Disk → Type 0 where
  rests : {m : Machine} {d : Disk} → ServedOn m d [] [] m d
  -- `ninotskev_ask`, and `ninotskev_progress`, which is its call 5, while no header is pending; the numbers are u64, as Rust's are
  asks : {m last : Machine} {d end : Disk} {is : List DiskItem} {ns : List Numbers}
      (w kind x y z delay : ℕ) (out : List ℕ) (q : Ask) (n : Numbers) (m' : Machine) (out' : List ℕ)
      → all_fit (w ∷ x ∷ y ∷ z ∷ delay ∷ []) ≡ true → ask_at kind x y z delay (length out) ≡ some q → has_header d.pending ≡ false
      → (Sound m → AskIs m w kind x y z delay out n m' out')
      → ServedOn m' d is ns last end
      → ServedOn m d (does (ask w q) ∷ is) (n ∷ ns) last end
  -- `ninotskev_ask` with a number that is no call's, which is no item of a list
  asks_nothing : {m last : Machine} {d end : Disk} {is : List DiskItem} {ns : List Numbers}
      (w kind x y z delay : ℕ) (out : List ℕ) (n : Numbers) (m' : Machine) (out' : List ℕ)
      → ask_at kind x y z delay (length out) ≡ none
      → (Sound m → AskIs m w kind x y z delay out n m' out')
      → ServedOn m' d is ns last end
      → ServedOn m d is ns last end
  -- `ninotskev_plan`, while no header is pending
  plans : {m last : Machine} {d end : Disk} {is : List DiskItem} {ns : List Numbers}
      (w : ℕ) (os out : List ℕ) (n : Numbers) (m' : Machine) (out' : List ℕ) → u64 w ≡ true → question_fits (Plan os (length out)) ≡ true
      → has_header d.pending ≡ false
      → (Sound m → PlanIs m w os out n m' out')
      → ServedOn m' d is ns last end
      → ServedOn m d (does (ask w (look (Plan os (length out)))) ∷ is) (n ∷ ns) last end
  -- `ninotskev_begin`, likewise
  begins : {m last : Machine} {d end : Disk} {is : List DiskItem} {ns : List Numbers}
      (w : ℕ) (n : Numbers) (m' : Machine) → has_header d.pending ≡ false
      → (Sound m → (a out : List ℕ) → CallIs m w 16 0 0 0 0 a out n m' a out)
      → ServedOn m' d is ns last end
      → ServedOn m d (does (begin w) ∷ is) (n ∷ ns) last end
  -- `ninotskev_step`, the header's only when nothing is pending
  steps : {m last : Machine} {d end : Disk} {is : List DiskItem} {ns : List Numbers}
      (n : Numbers) (m' : Machine) (a' : List ℕ) → too_early (phase_of m) d ≡ false
      → (Sound m → (out : List ℕ) → CallIs m 0 17 0 0 0 0 (area d) out n m' a' out)
      → ServedOn m' (written_by d n a') is ns last end
      → ServedOn m d (does step ∷ is) (n ∷ ns) last end
  -- the same, lent memory of another length
  strays : {m last : Machine} {d end : Disk} {is : List DiskItem} {ns : List Numbers}
      (b : List ℕ) (n : Numbers) (m' : Machine) (b' : List ℕ) → eqb (length b) (length (area d)) ≡ false → has_header d.pending ≡ false
      → (Sound m → (out : List ℕ) → CallIs m 0 17 0 0 0 0 b out n m' b' out)
      → ServedOn m' d is ns last end
      → ServedOn m d (steps_on b ∷ is) (n ∷ ns) last end
  -- a sync
  makes_durable : {m last : Machine} {d end : Disk} {is : List DiskItem} {ns : List Numbers}
      → ServedOn m (synced d) is ns last end
      → ServedOn m d (syncs ∷ is) ns last end
  -- a sync, and `ninotskev_restart`
  restarts : {m last : Machine} {d end : Disk} {is : List DiskItem} {ns : List Numbers}
      (n : Numbers) (m' : Machine)
      → (Sound m → (out : List ℕ) → CallIs m 0 18 0 0 0 0 (area d) out n m' (area d) out)
      → ServedOn m' (synced d) is ns last end
      → ServedOn m d (does restart ∷ is) (n ∷ ns) last end
  -- the power fails, and the program goes on with a machine that `ninotskev_off` made
  loses_power : {m last : Machine} {d end : Disk} {is : List DiskItem} {ns : List Numbers}
      (ks : List Cut) (m' : Machine) → OffIs m.configuration m'
      → ServedOn m' (failed_by d ks) is ns last end
      → ServedOn m d (fails ks ∷ is) ns last end
  -- the program ends at any other point and is started anew: such a machine does a sync, and goes on from what is there
  reopens : {m last : Machine} {d end : Disk} {is : List DiskItem} {ns : List Numbers}
      (m' : Machine) (n : Numbers) (m'' : Machine) → OffIs m.configuration m'
      → (Sound m' → (out : List ℕ) → CallIs m' 0 18 0 0 0 0 (area d) out n m'' (area d) out) → n.0 ≡ 0
      → ServedOn m'' (synced d) is ns last end
      → ServedOn m d (does restart ∷ is) (n ∷ ns) last end

-- ## it is the run
-- what an item is answered at once, on the area that the process sees
abbrev pub answer_on : state.Configuration → Phase → Disk → DiskItem → List Numbers
answer_on c p d (does q) = numbers_in (transition c p (area d) q) ∷ []
answer_on c p d (steps_on b) = numbers_in (step_elsewhere c (world p (area d)) b) ∷ []
answer_on c p d syncs = []
answer_on c p d (fails ks) = []

abbrev pub left_on : OnDisk → Option Then → OnDisk
left_on w none = w
left_on w (some t) = t.world

-- the answers to a list, in numbers
unfoldable pub answers_on : state.Configuration → OnDisk → List DiskItem → List Numbers
answers_on c w [] = []
answers_on c w (i ∷ is) =
    answer_on c w.phase w.disk i ++ answers_on c (left_on w (next_on c w.phase w.disk i)) is

pub record IsServedOn (m : Machine) (d : Disk) (is : List DiskItem) (ns : List Numbers) (last : Machine) (end : Disk) : Type 0 where
  -- the answers are those to the list, and the server leaves who can be called then, and the disk
  pub answers : answers_on (configuration_of m.configuration) (on_disk (phase_of m) d) is ≡ ns
  pub leaves : ends_on (configuration_of m.configuration) (on_disk (phase_of m) d) is ≡ on_disk (phase_of last) end
  pub configuration : last.configuration ≡ m.configuration
  -- the next contract can be used too
  pub sound : Sound last

-- what a server does with two syncs a checkpoint is a list on the disk
unfoldable pub ServedOnIsRun : Type 0
ServedOnIsRun =
    (m : Machine) (d : Disk) (is : List DiskItem) (ns : List Numbers) (last : Machine) (end : Disk) → Sound m → ServedOn m d is ns last end
    → IsServedOn m d is ns last end

-- ## so demand 3 and the bound over the batch hold of it
pub record HoldsServedOn (s : Configuration) (size : ℕ) (is : List DiskItem) (ns : List Numbers) (last : Machine) (end : Disk) : Type 0 where
  pub fresh : State
  pub is-fresh : start (configuration_of s) size ≡ done fresh
  pub answered : answers_on (configuration_of s) (fresh_disk fresh size) is ≡ ns
  pub holds : HoldsOn (configuration_of s) (restarts_on is) (run_on (configuration_of s) (fresh_disk fresh size) is)
  -- what the machine in memory is, and what it or another finds next, after a sync
  pub sound : Sound last
  pub configuration : last.configuration ≡ s
  pub found : FindsCopy s empty_book (run_on (configuration_of s) (fresh_disk fresh size) is ++ answers end.pending) (area end)

-- so demand 3 holds of every such server. It begins on a zeroed disk
unfoldable pub UnorderedServed : Type 0
UnorderedServed =
    (s : Configuration) (size : ℕ) (m : Machine) → Begins s size m
    → (is : List DiskItem) (ns : List Numbers) (last : Machine) (end : Disk) → ServedOn m (disk (replicate size 0) []) is ns last end
    → HoldsServedOn s size is ns last end
