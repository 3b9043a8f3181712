-- No dead end but one. After every list somebody can be called, at most after the steps that are left or a restart. One commit then settles
-- any offset below the last, and so do jobs of a worker who may claim, settle and checkpoint, from the lowest open offset on, unless it is a
-- dead end: 64 leases, or 128 leases and carried counts together, of which no ack finds room among 128 ranges. In a dead end nothing but a
-- commit or a restart settles anything; and after a checkpoint and a restart it is still one if all 128 counts are such.
-- SPEC.md, "Lists".
use Rattle.std.specs.Prelude.{ℕ, suc, ◌+◌, ◌-◌, ◌≤◌, ◌<◌, ◌≡◌, Bool, true, false, ◌&&◌, ◌||◌, List, [], ◌∷◌, ◌++◌, leb, eqb, length}
use Rattle.std.proofs.Math.Option.{none, some}
use Rattle.types.specs.Limits.{MAX, MAX32, LEASES, CARRIED, RANGES}
use Rattle.types.specs.Refusal.{done}
use Rattle.types.specs.Keyed.{Entry}
use Rattle.cursor.specs.Cursor.{Cursor, settled, fragments}
use Rattle.hours.specs.Hours.{WEEK, isOpen}
use Rattle.lease.specs.declared.Lease.{Lease}
use Rattle.lease.specs.Operations.{lease_of, running}
use Rattle.consumer.specs.State.{Configuration, State}
use Rattle.consumer.specs.Calls.{is_full}
use Rattle.consumer.specs.Valid.{Fits}
use Rattle.consumer.specs.Rights.{claiming, settling, committing, checkpointing}
use Rattle.starts.specs.Restart.{start}
use Rattle.machine.specs.Calls.{claim, ack, term, nack, progress, commit, look, ask, begin, step, restart, Event}
use Rattle.machine.specs.Transitions.{Phase, idle, writing, off}
use Rattle.crash_safety.specs.Runs.{Item, call, step_on, cut, World, run, ends, fresh_world}
use Rattle.crash_safety.specs.Demand3.{restarts_in}
use Rattle.crash_safety.specs.Settled.{state_in}
use Rattle.crash_safety.specs.Workers.{May, refusal_of}
use Rattle.crash_safety.specs.Useful.{checkpoint}
use Rattle.crash_safety.specs.Halves.{steps_left}

-- ## somebody can be called
unfoldable pub NoneRefused : List Event → Type 0
NoneRefused [] = Unit {0}
NoneRefused (e ∷ es) = (refusal_of e ≡ none) × NoneRefused es

-- what comes first: nothing, the steps that are left, or a restart
abbrev pub first : Phase → List Item
first (idle s) = []
first (writing w) = steps_left w
first off = call restart ∷ []

-- items of which none is refused, and which leave a state
pub record LeadsTo (c : Configuration) (w : World) (items : List Item) : Type 0 where
  pub answered : NoneRefused (run c w items)
  pub left : State
  pub leaves : (ends c w items).phase ≡ idle left

-- after every list somebody can be called
unfoldable pub AlwaysCallable : Type 0
AlwaysCallable =
    (c : Configuration) (size : ℕ) (s : State) (items : List Item) → Fits c.settings → start c size ≡ done s
    → LeadsTo c (ends c (fresh_world s size) items) (first (ends c (fresh_world s size) items).phase)

-- ## free offsets
-- an offset that can be claimed and then acked: not 21, 22 or 27 of the claim, nor 29 of the ack
pub record Free (s : State) (o : ℕ) : Type 0 where
  pub below : o < MAX
  pub unsettled : settled s.cursor o ≡ false
  pub room : is_full s.table o ≡ false
  pub not_shed : fragments s.cursor o RANGES ≡ false

pub record FreeOne (s : State) : Type 0 where
  pub offset : ℕ
  pub free : Free s offset

-- ## a dead end
-- none of the offsets can be settled by an ack: it would make a range too many (29), or is the last offset of all
abbrev pub none_settled : {A : Type 0} → Cursor → List (Entry A) → Bool
none_settled c [] = true
none_settled c (e ∷ l) = (fragments c e.key RANGES || eqb e.key MAX) && none_settled c l

-- leases and carried counts are 128 together, and none of their offsets can be settled: then no other can be claimed
abbrev pub is_jammed : State → Bool
is_jammed s =
    none_settled s.cursor s.table.leases && none_settled s.cursor s.table.carried
    && leb CARRIED (length s.table.leases + length s.table.carried)

-- that, or there are 64 leases, and none of their offsets can be settled: then no other can be claimed either
abbrev pub is_dead : State → Bool
is_dead s = is_jammed s || (none_settled s.cursor s.table.leases && leb LEASES (length s.table.leases))

-- ## what leads on
-- without a restart, and the offset is settled then
pub record SettlesBy (c : Configuration) (w : World) (o : ℕ) (items : List Item) : Type 0 where
  pub leads : LeadsTo c w items
  pub no-restart : restarts_in items ≡ 0
  pub settles : settled leads.left.cursor o ≡ true

pub record CanSettle (c : Configuration) (w : World) (o : ℕ) : Type 0 where
  pub items : List Item
  pub settles : SettlesBy c w o items

pub record MayWork (c : Configuration) (v : ℕ) : Type 0 where
  pub claims : May c v claiming
  pub acks : May c v settling
  pub checkpoints : May c v checkpointing

-- an open clock at which no lease runs
pub record Quiet (s : State) (now : ℕ) : Type 0 where
  pub clock : now ≤ MAX
  pub in-hours : isOpen s.settings.hours now ≡ true
  pub none_runs : (o : ℕ) → running (lease_of s.table o) now ≡ false

pub record QuietSoon (s : State) (late : ℕ) : Type 0 where
  pub clock : ℕ
  pub from : late ≤ clock
  pub within : clock ≤ late + WEEK
  pub quiet : Quiet s clock

-- a job: worker v makes a checkpoint, claims an offset and acks it
abbrev pub job : ℕ → State → ℕ → ℕ → List Item
job v s o now = checkpoint v s ++ (call (ask v (claim o now)) ∷ call (ask v (ack o s.table.next_generation)) ∷ [])

-- generations and numbers of groups for so many jobs
pub record Enough (s : State) (many : ℕ) : Type 0 where
  pub generations : s.table.next_generation + many ≤ MAX
  pub numbers : s.next.number + many ≤ suc MAX32

-- one job more than there are offsets from the lowest open one up to o
abbrev pub jobs : State → ℕ → ℕ
jobs s o = suc (suc o - s.cursor.committed)

pub record Onward (c : Configuration) (w : World) (s : State) : Type 0 where
  -- one commit settles it, and all below it
  pub commits : (v o : ℕ) → May c v committing → o < MAX → SettlesBy c w o (call (ask v (commit (suc o))) ∷ [])
  -- one job settles a free offset, and job after job any other, unless it is a dead end
  pub at_once : (v now o : ℕ) → MayWork c v → Quiet s now → Enough s 1 → Free s o → SettlesBy c w o (job v s o now)
  pub in_the_end : (v now o : ℕ) → MayWork c v → Quiet s now → Enough s (jobs s o) → o < MAX → is_dead s ≡ false → CanSettle c w o
  -- in a dead end no offset is free; otherwise one is, unless all are settled
  pub dead : is_dead s ≡ true → (o : ℕ) → Free s o → ⊥
  pub alive : is_dead s ≡ false → s.cursor.committed < MAX → FreeOne s
  -- no later than a week after the last deadline there is such a clock
  pub soon : (late : ℕ) → ((o : ℕ) (l : Lease) → lease_of s.table o ≡ some l → l.deadline ≤ late) → late + WEEK ≤ MAX → QuietSoon s late

-- any offset can be settled, unless it is a dead end. After every list that leaves a state
unfoldable pub NoDeadEnd : Type 0
NoDeadEnd =
    (c : Configuration) (size : ℕ) (s : State) (items : List Item) → Fits c.settings → start c size ≡ done s
    → (left : State) → (ends c (fresh_world s size) items).phase ≡ idle left → Onward c (ends c (fresh_world s size) items) left

-- ## in a dead end
-- the commits in a list
abbrev pub commit_in : Item → ℕ
commit_in (call (ask w (claim o now))) = 0
commit_in (call (ask w (ack o g))) = 0
commit_in (call (ask w (term o g))) = 0
commit_in (call (ask w (nack o g now d))) = 0
commit_in (call (ask w (progress o g now))) = 0
commit_in (call (ask w (commit bound))) = 1
commit_in (call (ask w (look q))) = 0
commit_in (call (begin w)) = 0
commit_in (call step) = 0
commit_in (call restart) = 0
commit_in (step_on b) = 0
commit_in (cut k) = 0

unfoldable pub commits_in : List Item → ℕ
commits_in [] = 0
commits_in (i ∷ is) = commit_in i + commits_in is

-- in a dead end only a commit or a restart helps. Whatever else comes then, the cursor stays as it is
unfoldable pub DeadEnd : Type 0
DeadEnd =
    (c : Configuration) (size : ℕ) (s : State) (items : List Item) → Fits c.settings → start c size ≡ done s
    → (left : State) → (ends c (fresh_world s size) items).phase ≡ idle left → is_dead left ≡ true
    → (more : List Item) → restarts_in more ≡ 0 → commits_in more ≡ 0
    → (then : State) → state_in (ends c (ends c (fresh_world s size) items) more).phase ≡ some then → then.cursor ≡ left.cursor

-- ## a checkpoint and a restart
-- the same is settled then, and it is a dead end just if every count was jammed before
pub record Freed (c : Configuration) (w : World) (s : State) (items : List Item) : Type 0 where
  pub leads : LeadsTo c w items
  pub same : leads.left.cursor ≡ s.cursor
  pub dead : is_dead leads.left ≡ is_jammed s

-- a checkpoint and a restart end it, unless it is a jam
unfoldable pub RestartFrees : Type 0
RestartFrees =
    (c : Configuration) (size : ℕ) (s : State) (items : List Item) → Fits c.settings → start c size ≡ done s
    → (left : State) → (ends c (fresh_world s size) items).phase ≡ idle left → left.next.number ≤ MAX32
    → (v : ℕ) → May c v checkpointing → Freed c (ends c (fresh_world s size) items) left (checkpoint v left ++ call restart ∷ [])

-- ## a jam that a checkpoint has stored
-- a jam that was stored ends by a commit only. Whatever comes after the checkpoint but commits, restarts and power
-- failures too, the cursor stays as it is
unfoldable pub JammedForGood : Type 0
JammedForGood =
    (c : Configuration) (size : ℕ) (s : State) (items : List Item) → Fits c.settings → start c size ≡ done s
    → (left : State) → (ends c (fresh_world s size) items).phase ≡ idle left → left.next.number ≤ MAX32 → is_jammed left ≡ true
    → (v : ℕ) → May c v checkpointing → (more : List Item) → commits_in more ≡ 0
    → (then : State) → state_in (ends c (ends c (fresh_world s size) items) (checkpoint v left ++ more)).phase ≡ some then → then.cursor ≡ left.cursor
