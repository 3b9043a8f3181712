-- Demand 3 of a server: what a program does through the exported functions, one after the other, in the words of their contracts, with
-- machines, journals and answers in numbers as Rust has them.
-- SPEC.md, "Lists".
use Rattle.std.specs.Prelude.{ℕ, ◌≡◌, true, false, List, [], ◌∷◌, eqb, length, replicate}
use Rattle.std.proofs.Math.Option.{Option, none, some}
use Rattle.types.specs.Refusal.{done}
use Rattle.consumer.specs.State.{State}
use Rattle.consumer.specs.State as state
use Rattle.consumer.specs.Export.{Snapshots}
use Rattle.consumer.specs.Questions.{Plan, export_to}
use Rattle.consumer.specs.declared.Configuration.{Configuration}
use Rattle.starts.specs.Starting.{configuration_of}
use Rattle.starts.specs.Restart.{start}
use Rattle.machine.specs.Calls.{Ask, ask, begin, step, restart, look, u64, all_fit, question_fits, Event}
use Rattle.machine.specs.Transitions.{idle, After}
use Rattle.machine.specs.View.{phase_of, Sound, OffIs}
use Rattle.machine.specs.declared.Machine.{Machine}
use Rattle.answers.specs.Numbers.{numbers_in}
use Rattle.answers.specs.declared.Numbers.{Numbers}
use Rattle.power_cut.specs.Cut.{Cut, power_cut}
use Rattle.server.specs.Kinds.{ask_at}
use Rattle.server.specs.Transitions.{AskIs, CallIs, PlanIs, ExportIs, StartIs}
use Rattle.crash_safety.specs.Runs.{Item, call, step_on, cut, World, world, next, after, run, ends, fresh_world}
use Rattle.crash_safety.specs.Book.{Page, Book, empty_book, book_after}
use Rattle.crash_safety.specs.Demand3.{Finds, restarts_in, limit_of, threshold_of, Limited, Holds}
use Rattle.crash_safety.specs.Batch.{WithinBatch}
use Rattle.served.specs.Told.{told_of, InNumbers}

-- from a machine and its journal to what a server leaves of both, over the items that it makes and the answers that it gets. What a
-- contract requires stands in front of what it says
pub data Served : Machine → List ℕ → List Item → List Numbers → Machine → List ℕ → Type 0 where
  rests : {m : Machine} {a : List ℕ} → Served m a [] [] m a
  -- `ninotskev_ask`, and `ninotskev_progress`, which is its call 5; the numbers are u64, as Rust's are
  asks : {m last : Machine} {a end : List ℕ} {is : List Item} {ns : List Numbers}
      (w kind x y z d : ℕ) (out : List ℕ) (q : Ask) (n : Numbers) (m' : Machine) (out' : List ℕ)
      → all_fit (w ∷ x ∷ y ∷ z ∷ d ∷ []) ≡ true → ask_at kind x y z d (length out) ≡ some q
      → (Sound m → AskIs m w kind x y z d out n m' out')
      → Served m' a is ns last end
      → Served m a (call (ask w q) ∷ is) (n ∷ ns) last end
  -- `ninotskev_ask` with a number that is no call's, which is no item of a list
  asks_nothing : {m last : Machine} {a end : List ℕ} {is : List Item} {ns : List Numbers}
      (w kind x y z d : ℕ) (out : List ℕ) (n : Numbers) (m' : Machine) (out' : List ℕ)
      → ask_at kind x y z d (length out) ≡ none
      → (Sound m → AskIs m w kind x y z d out n m' out')
      → Served m' a is ns last end
      → Served m a is ns last end
  -- `ninotskev_plan`
  plans : {m last : Machine} {a end : List ℕ} {is : List Item} {ns : List Numbers}
      (w : ℕ) (os out : List ℕ) (n : Numbers) (m' : Machine) (out' : List ℕ) → u64 w ≡ true → question_fits (Plan os (length out)) ≡ true
      → (Sound m → PlanIs m w os out n m' out')
      → Served m' a is ns last end
      → Served m a (call (ask w (look (Plan os (length out)))) ∷ is) (n ∷ ns) last end
  -- `ninotskev_export`
  exports : {m last : Machine} {a end : List ℕ} {is : List Item} {ns : List Numbers}
      (w : ℕ) (out : Snapshots) (n : Numbers) (m' : Machine) (out' : Snapshots) → u64 w ≡ true
      → (Sound m → ExportIs m w out n m' out')
      → Served m' a is ns last end
      → Served m a (call (ask w (look (export_to out))) ∷ is) (n ∷ ns) last end
  -- `ninotskev_begin`
  begins : {m last : Machine} {a end : List ℕ} {is : List Item} {ns : List Numbers}
      (w : ℕ) (n : Numbers) (m' : Machine)
      → (Sound m → (area out : List ℕ) → CallIs m w 16 0 0 0 0 area out n m' area out)
      → Served m' a is ns last end
      → Served m a (call (begin w) ∷ is) (n ∷ ns) last end
  -- `ninotskev_step`, lent the journal
  steps : {m last : Machine} {a end : List ℕ} {is : List Item} {ns : List Numbers}
      (n : Numbers) (m' : Machine) (a' : List ℕ)
      → (Sound m → (out : List ℕ) → CallIs m 0 17 0 0 0 0 a out n m' a' out)
      → Served m' a' is ns last end
      → Served m a (call step ∷ is) (n ∷ ns) last end
  -- the same, lent memory of another length than the journal's
  strays : {m last : Machine} {a end : List ℕ} {is : List Item} {ns : List Numbers}
      (b : List ℕ) (n : Numbers) (m' : Machine) (b' : List ℕ) → eqb (length b) (length a) ≡ false
      → (Sound m → (out : List ℕ) → CallIs m 0 17 0 0 0 0 b out n m' b' out)
      → Served m' a is ns last end
      → Served m a (step_on b ∷ is) (n ∷ ns) last end
  -- `ninotskev_restart`, whoever can be called
  restarts : {m last : Machine} {a end : List ℕ} {is : List Item} {ns : List Numbers}
      (n : Numbers) (m' : Machine)
      → (Sound m → (out : List ℕ) → CallIs m 0 18 0 0 0 0 a out n m' a out)
      → Served m' a is ns last end
      → Served m a (call restart ∷ is) (n ∷ ns) last end
  -- the power fails while a step's block is written, or its write answers an error: the program goes on anew, with what the failure left of
  -- the journal and a machine that `ninotskev_off` made
  fails : {m last : Machine} {a end : List ℕ} {is : List Item} {ns : List Numbers}
      (k : Cut) (t : After) (m' : Machine) → power_cut (phase_of m) a k ≡ some t → OffIs m.configuration m'
      → Served m' t.area is ns last end
      → Served m a (cut k ∷ is) ns last end
  -- the program ends at any other point and is started anew: such a machine goes on from the journal
  reopens : {m last : Machine} {a end : List ℕ} {is : List Item} {ns : List Numbers}
      (m' : Machine) (n : Numbers) (m'' : Machine) → OffIs m.configuration m'
      → (Sound m' → (out : List ℕ) → CallIs m' 0 18 0 0 0 0 a out n m'' a out) → n.0 ≡ 0
      → Served m'' a is ns last end
      → Served m a (call restart ∷ is) (n ∷ ns) last end

-- ## it is the run
-- the answer to an item, in front of those after it; a power failure has none
abbrev pub answered_as : Item → Option After → List Numbers → List Numbers
answered_as (call q) x ns = numbers_in x ∷ ns
answered_as (step_on b) x ns = numbers_in x ∷ ns
answered_as (cut k) x ns = ns

abbrev pub left_by : World → Option After → World
left_by w none = w
left_by w (some t) = after t

-- the answers to a list, in numbers: of what can't be made where it stands, that it can't
unfoldable pub answers_to : state.Configuration → World → List Item → List Numbers
answers_to c w [] = []
answers_to c w (i ∷ is) = answered_as i (next c w i) (answers_to c (left_by w (next c w i)) is)

pub record IsServed (m : Machine) (a : List ℕ) (is : List Item) (ns : List Numbers) (last : Machine) (end : List ℕ) : Type 0 where
  -- the answers are those to the list, and the server leaves who can be called then, and the journal
  pub answers : answers_to (configuration_of m.configuration) (world (phase_of m) a) is ≡ ns
  pub leaves : ends (configuration_of m.configuration) (world (phase_of m) a) is ≡ world (phase_of last) end
  pub configuration : last.configuration ≡ m.configuration
  -- the next contract can be used too
  pub sound : Sound last

-- what a server does through the exported functions is a list
unfoldable pub ServedIsRun : Type 0
ServedIsRun =
    (m : Machine) (a : List ℕ) (is : List Item) (ns : List Numbers) (last : Machine) (end : List ℕ) → Sound m → Served m a is ns last end
    → IsServed m a is ns last end

-- ## so demand 3 and the bound over the batch hold of it
-- what a restart leaves: it is answered 0, and the machine can be called and has the settled offsets and the counts of a page
pub record Found (p : Page) (n : Numbers) (m : Machine) : Type 0 where
  pub answered : n.0 ≡ 0
  pub state : State
  pub callable : phase_of m ≡ idle state
  pub finds : Finds p state

-- a restart next, of any sound machine with the configuration, the last one or one that is off, finds the copy of a book after these events
abbrev pub FindsCopy : Configuration → Book → List Event → List ℕ → Type 0
FindsCopy s b es end =
    (m : Machine) (n : Numbers) (m' : Machine) → Sound m → m.configuration ≡ s
    → (Sound m → (out : List ℕ) → CallIs m 0 18 0 0 0 0 end out n m' end out) → Found (book_after b es).copy n m'

pub record HoldsServed (s : Configuration) (size : ℕ) (is : List Item) (ns : List Numbers) (last : Machine) (end : List ℕ) : Type 0 where
  -- in the numbers that were answered
  pub numbers : InNumbers (configuration_of s) is (told_of is ns)
  -- and of the events of the list, which these are the numbers of
  pub fresh : State
  pub is-fresh : start (configuration_of s) size ≡ done fresh
  pub answers : answers_to (configuration_of s) (fresh_world fresh size) is ≡ ns
  pub holds : Holds (configuration_of s) empty_book (restarts_in is) (run (configuration_of s) (fresh_world fresh size) is)
  pub batch : Limited (configuration_of s)
      → WithinBatch (limit_of (configuration_of s)) (threshold_of (configuration_of s)) (restarts_in is) (run (configuration_of s) (fresh_world fresh size) is)
  -- what the machine in memory is, and what it or another finds next
  pub sound : Sound last
  pub configuration : last.configuration ≡ s
  pub found : FindsCopy s empty_book (run (configuration_of s) (fresh_world fresh size) is) end
  -- so no machine that is off is refused to go on from the journal
  pub reopened : (m : Machine) (n : Numbers) (m' : Machine) → OffIs s m
      → (Sound m → (out : List ℕ) → CallIs m 0 18 0 0 0 0 end out n m' end out) → n.0 ≡ 0

-- the machine that a server begins with on a zeroed journal: by `ninotskev_start`, or by a restart of a machine that is off, which is a start
-- too and doesn't count among the restarts; neither was refused
pub data Begins (s : Configuration) (size : ℕ) (m : Machine) : Type 0 where
  starts : (before : Machine) (n : Numbers) → StartIs before s size n m → n.0 ≡ 0 → Begins s size m
  opens : (before : Machine) (n : Numbers) → OffIs s before
      → (Sound before → (out : List ℕ) → CallIs before 0 18 0 0 0 0 (replicate size 0) out n m (replicate size 0) out) → n.0 ≡ 0
      → Begins s size m

-- so demand 3 holds of every server, in numbers
unfoldable pub Demand3Served : Type 0
Demand3Served =
    (s : Configuration) (size : ℕ) (m : Machine) → Begins s size m
    → (is : List Item) (ns : List Numbers) (last : Machine) (end : List ℕ) → Served m (replicate size 0) is ns last end
    → HoldsServed s size is ns last end

-- and of every one whose first call on the zeroed journal is a restart, which is a start too and doesn't count among the restarts
unfoldable pub Demand3Opened : Type 0
Demand3Opened =
    (s : Configuration) (size : ℕ) (m : Machine) (n : Numbers) (m' : Machine) → OffIs s m
    → (Sound m → (out : List ℕ) → CallIs m 0 18 0 0 0 0 (replicate size 0) out n m' (replicate size 0) out) → n.0 ≡ 0
    → (is : List Item) (ns : List Numbers) (last : Machine) (end : List ℕ) → Served m' (replicate size 0) is ns last end
    → HoldsServed s size is ns last end
