-- The two halves. A group has 9 blocks at most, so that it fits in every half, and the begin of a worker who may is refused
-- for want of a number alone (31). Each header wholly written uses up one number, and nothing else does: so no list with fewer than
-- 4294967295 of them meets 31, and after every such list a checkpoint is made. A checkpoint that is interrupted, in the zeroing of the
-- other half or later, leaves a restart what it would have found in its place; and after one that went to the other half a restart reads
-- that half, whatever the old one holds.
-- SPEC.md, "Halves".
use Rattle.std.specs.Prelude.{ℕ, suc, ◌+◌, ◌-◌, ◌≤◌, ◌<◌, ◌≡◌, Bool, true, false, List, [], ◌∷◌, ◌++◌, ltb, length, replicate}
use Rattle.std.proofs.Math.Option.{some}
use Rattle.types.specs.Limits.{MAX32, CARRIED}
use Rattle.types.specs.Refusal.{refused, done, JournalFull}
use Rattle.types.specs.Table.{Passed}
use Rattle.lease.specs.Counts.{all_attempt_counts}
use Rattle.journal.specs.Area.{block_at}
use Rattle.consumer.specs.State.{Configuration, State, half_blocks, half_in_use, half_end, otherHalf}
use Rattle.consumer.specs.Valid.{Fits, Valid}
use Rattle.consumer.specs.Rights.{checkpointing}
use Rattle.consumer.specs.Calls.{call_rows}
use Rattle.checkpoint.specs.Checkpoint as checkpoints
use Rattle.checkpoint.specs.Checkpoint.{bodies, switches, group_block, writes, flushed, begin, Writing}
use Rattle.starts.specs.Restart.{start}
use Rattle.machine.specs.Calls.{step, restart, Event, begun}
use Rattle.machine.specs.Transitions.{idle, writing}
use Rattle.power_cut.specs.Cut.{Cut, old, new, torn, is_torn}
use Rattle.crash_safety.specs.Effects.{Effect, handing, settling, requeuing, renewing, restarting, nothing, effect_of}
use Rattle.crash_safety.specs.Book.{Page, empty_book, book_after}
use Rattle.crash_safety.specs.Runs.{Item, call, World, run, ends, fresh_world}
use Rattle.crash_safety.specs.Demand3.{Finds}
use Rattle.crash_safety.specs.Settled.{state_in}
use Rattle.crash_safety.specs.Workers.{May}
use Rattle.crash_safety.specs.Recovery as recovery
use Rattle.crash_safety.specs.Recovery.{then_cut, HasNumber}
use Rattle.crash_safety.specs.Useful.{AllAccepted, checkpoint, Checkpointed}

-- ## a group fits
pub record Placed (s : State) : Type 0 where
  pub nine-blocks : suc (bodies s) ≤ 9
  pub in_a-half : suc (bodies s) ≤ half_blocks s.size
  -- it goes behind the groups of the half in use where it fits there, and else to the first block of the other half
  pub stays : switches s ≡ false → (group_block s ≡ s.next.block) × (group_block s + suc (bodies s) ≤ half_end s.size s.next.block)
  pub moves : switches s ≡ true → group_block s ≡ otherHalf s.size s.next.block
  -- to a worker who may, 31 is met just where the number is above 4294967295
  pub begins : (v : ℕ) → Passed (call_rows s v checkpointing) → HasNumber s → begin s v ≡ done (checkpoints.writing s 0)
  pub is-full : (v : ℕ) → Passed (call_rows s v checkpointing) → MAX32 < s.next.number → begin s v ≡ refused JournalFull

-- a group fits in every half. So it is of every state that a start, a restart on any area or an answer gives; and with
-- 128 ranges and 128 counts the 9 blocks are taken
pub record NineBlocks : Type 0 where
  pub placed : (s : State) → Valid s → Placed s
  pub largest : (s : State) → length s.cursor.ahead ≡ CARRIED → length (all_attempt_counts s.table) ≡ CARRIED → suc (bodies s) ≡ 9

-- ## numbers
-- headers wholly written, by a step or by a power failure that left the block new
abbrev pub headers : Effect → ℕ
headers (handing o h) = 0
headers (settling named) = 0
headers (requeuing o) = 0
headers renewing = 1
headers (restarting a) = 0
headers nothing = 0

unfoldable pub headers_in : List Event → ℕ
headers_in [] = 0
headers_in (e ∷ es) = headers (effect_of e) + headers_in es

-- no begin is refused 31, whichever worker's it is
unfoldable pub NoneFull : List Event → Type 0
NoneFull [] = Unit {0}
NoneFull (e ∷ es) = (e ≡ begun (refused JournalFull) → ⊥) × NoneFull es

-- a list uses up a number for each of its headers. The state that it leaves, in hand or in a writing record, has so
-- many behind it
unfoldable pub NumbersUsed : Type 0
NumbersUsed =
    (c : Configuration) (size : ℕ) (s : State) (items : List Item) → Fits c.settings → start c size ≡ done s
    → (left : State) → state_in (ends c (fresh_world s size) items).phase ≡ some left
    → left.next.number ≡ suc (headers_in (run c (fresh_world s size) items))

-- no list with fewer than 4294967295 headers meets 31
unfoldable pub NeverFull : Type 0
NeverFull =
    (c : Configuration) (size : ℕ) (s : State) (items : List Item) → Fits c.settings → start c size ≡ done s
    → headers_in (run c (fresh_world s size) items) < MAX32 → NoneFull (run c (fresh_world s size) items)

-- ## a consumer never stops
-- the steps that a record has to make
abbrev pub steps_left : Writing → List Item
steps_left w = replicate (writes w.state - w.written) (call step)

pub record Finished (c : Configuration) (u : World) (w : Writing) : Type 0 where
  pub wrote : AllAccepted (run c u (steps_left w))
  pub leaves : (ends c u (steps_left w)).phase ≡ idle (flushed w.state)

pub record GoesOn (c : Configuration) (u : World) : Type 0 where
  -- from a state the begin of a worker who may and every step succeed, and give it back flushed
  pub checkpoints : (v : ℕ) → May c v checkpointing → (left : State) → u.phase ≡ idle left → Checkpointed c v u left
  -- and so do the steps that are left of a checkpoint under way
  pub finishes : (w : Writing) → u.phase ≡ writing w → Finished c u w

-- after such a list checkpoints still succeed. It has fewer headers than there are numbers
unfoldable pub NeverStops : Type 0
NeverStops =
    (c : Configuration) (size : ℕ) (s : State) (items : List Item) → Fits c.settings → start c size ≡ done s
    → headers_in (run c (fresh_world s size) items) < MAX32 → GoesOn c (ends c (fresh_world s size) items)

-- ## an interrupted checkpoint, whichever half it goes to
-- the failure in the step after k of them leaves its block old or torn, or new where it is zeros or a body
abbrev pub unfinished : State → ℕ → Cut → Bool
unfinished s k old = true
unfinished s k new = ltb (suc k) (writes s)
unfinished s k (torn b) = is_torn b

-- the items leave what a restart in their place would have given, and it is the page
pub record Recovers (c : Configuration) (w : World) (items : List Item) (p : Page) : Type 0 where
  pub state : State
  pub found : (ends c w items).phase ≡ idle state
  pub in_place : (ends c w (call restart ∷ [])).phase ≡ idle state
  pub finds : Finds p state

-- an interrupted checkpoint leaves the restart of before it
unfoldable pub InterruptedSwitch : Type 0
InterruptedSwitch =
    (c : Configuration) (size : ℕ) (s : State) (items : List Item) → Fits c.settings → start c size ≡ done s
    → (left : State) → (ends c (fresh_world s size) items).phase ≡ idle left → HasNumber left
    → (v : ℕ) → May c v checkpointing → (k : ℕ) (x : Cut) → k < writes left → unfinished left k x ≡ true
    → Recovers c (ends c (fresh_world s size) items) (recovery.begun v k ++ then_cut x) (book_after empty_book (run c (fresh_world s size) items)).copy

-- ## after a switch
-- the blocks of the half in use
pub record InHalf (s : State) (i : ℕ) : Type 0 where
  pub from : half_end s.size s.next.block ≤ i + half_blocks s.size
  pub to : i < half_end s.size s.next.block

-- a checkpoint that went to the other half left the old one as it was, headers and all; and a restart then is not refused for them, but
-- finds that checkpoint, in the half that it went to
pub record Switched (c : Configuration) (v : ℕ) (w : World) (s : State) (p : Page) : Type 0 where
  pub old-half : (i : ℕ) → InHalf s i → block_at (ends c w (checkpoint v s)).journal i ≡ block_at w.journal i
  pub state : State
  pub found : (ends c w (checkpoint v s ++ call restart ∷ [])).phase ≡ idle state
  pub finds : Finds p state
  pub next : state.next ≡ (flushed s).next
  pub other_half : half_in_use s.size state.next.block ≡ 1 - half_in_use s.size s.next.block

-- after a switch a restart finds the new half, and the old one is as it was
unfoldable pub AfterSwitch : Type 0
AfterSwitch =
    (c : Configuration) (size : ℕ) (s : State) (items : List Item) → Fits c.settings → start c size ≡ done s
    → (left : State) → (ends c (fresh_world s size) items).phase ≡ idle left → HasNumber left → switches left ≡ true
    → (v : ℕ) → May c v checkpointing → Switched c v (ends c (fresh_world s size) items) left (book_after empty_book (run c (fresh_world s size) items)).page
