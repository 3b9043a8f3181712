-- Not useless. After every list that leaves a state with a number for one more group, the begin of a worker who may checkpoint and its
-- steps are not refused; a claim of one who may claim is then granted in opening hours, but for the last offset, a settled one, one that is
-- held, when generations or room for it are used up. And the waiting list of every state holds each offset just once that the book has unsettled
-- with a count, and that no lease holds.
-- SPEC.md, "Lists".
use Rattle.std.specs.Prelude.{ℕ, ◌≡◌, Bool, true, false, cond, not, ◌&&◌, List, [], ◌∷◌, eqb}
use Rattle.types.specs.Limits.{MAX}
use Rattle.types.specs.Refusal.{refused, done, CheckpointDue}
use Rattle.types.specs.Lists.{times}
use Rattle.cursor.specs.Cursor.{settled}
use Rattle.hours.specs.Hours.{isOpen}
use Rattle.lease.specs.Operations.{lease_of, running}
use Rattle.consumer.specs.State.{Configuration, State}
use Rattle.consumer.specs.Calls.{is_full, hand_out, claim}
use Rattle.consumer.specs.Questions.{waiting_at}
use Rattle.consumer.specs.Valid.{Fits}
use Rattle.consumer.specs.Rights.{claiming, checkpointing}
use Rattle.checkpoint.specs.Checkpoint as checkpoints
use Rattle.checkpoint.specs.Checkpoint.{writes, flushed}
use Rattle.starts.specs.Restart.{start}
use Rattle.machine.specs.Calls.{Event, begun, stepped}
use Rattle.machine.specs.Transitions.{idle}
use Rattle.crash_safety.specs.Book.{Page, empty_book, book_after}
use Rattle.crash_safety.specs.Runs.{Item, World, run, ends, fresh_world}
use Rattle.crash_safety.specs.Workers.{May}
use Rattle.crash_safety.specs.Recovery as recovery
use Rattle.crash_safety.specs.Recovery.{HasNumber}

-- a begin or a step that is not refused
pub data Accepted : Event → Type 0 where
  began : (writes : ℕ) → Accepted (begun (done writes))
  steps : (w : checkpoints.BlockWritten) → Accepted (stepped (done w))

unfoldable pub AllAccepted : List Event → Type 0
AllAccepted [] = Unit {0}
AllAccepted (e ∷ es) = Accepted e × AllAccepted es

-- worker v begins, and a step follows for each block write
abbrev pub checkpoint : ℕ → State → List Item
checkpoint v s = recovery.begun v (writes s)

-- the checkpoint is made, and the consumer is then its state with a new ceiling and a cleared counter
pub record Checkpointed (c : Configuration) (v : ℕ) (w : World) (s : State) : Type 0 where
  pub wrote : AllAccepted (run c w (checkpoint v s))
  pub leaves : (ends c w (checkpoint v s)).phase ≡ idle (flushed s)

-- nothing speaks against a claim of the offset: not 21, 22, 35, 23, 25 or 27
pub record Claimable (s : State) (o now : ℕ) : Type 0 where
  pub not_last : eqb o MAX ≡ false
  pub unsettled : settled s.cursor o ≡ false
  pub in-hours : isOpen s.settings.hours now ≡ true
  pub not_held : running (lease_of s.table o) now ≡ false
  pub generations : eqb s.table.next_generation MAX ≡ false
  pub room : is_full s.table o ≡ false

-- an offset that waits at a clock, by the book
abbrev pub waits_by_book : Page → State → ℕ → ℕ → Bool
waits_by_book p s now o = not (p.settled o) && not (eqb (p.count o) 0) && not (running (lease_of s.table o) now)

pub record Useful (c : Configuration) (w : World) (s : State) (p : Page) : Type 0 where
  pub checkpoints : (v : ℕ) → May c v checkpointing → HasNumber s → Checkpointed c v w s
  -- right after a checkpoint
  pub claims : (v o now : ℕ) → May c v claiming → Claimable s o now → (claim (flushed s) v o now).outcome ≡ done (hand_out (flushed s) o)
  pub not_due : (v o now : ℕ) → (claim (flushed s) v o now).outcome ≡ refused CheckpointDue → ⊥
  pub waiting : (now o : ℕ) → times o (waiting_at s now) ≡ cond (waits_by_book p s now o) 1 0

-- checkpoints and claims are not refused without a reason. After every list that leaves a state
unfoldable pub NotUseless : Type 0
NotUseless =
    (c : Configuration) (size : ℕ) (s : State) (items : List Item) → Fits c.settings → start c size ≡ done s
    → (left : State) → (ends c (fresh_world s size) items).phase ≡ idle left
    → Useful c (ends c (fresh_world s size) items) left (book_after empty_book (run c (fresh_world s size) items)).page
