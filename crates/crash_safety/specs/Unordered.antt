-- Demand 3 on a disk that keeps no order between two syncs (Disk.antt). A step's block write is pending until a sync. The header's step is
-- made only when nothing is pending, and after it comes a sync, a power failure or a restart. So a checkpoint of any size takes two syncs.
-- SPEC.md, "Disk".
use Rattle.std.specs.Prelude.{ℕ, ◌+◌, ◌≡◌, Bool, true, false, cond, not, ◌&&◌, List, [], ◌∷◌, ◌++◌, replicate}
use Rattle.std.proofs.Math.Option.{Option, none, some}
use Rattle.types.specs.Refusal.{Result, refused, done}
use Rattle.journal.specs.Area.{block_at}
use Rattle.consumer.specs.State.{Configuration, State}
use Rattle.consumer.specs.Valid.{Fits}
use Rattle.checkpoint.specs.Checkpoint as checkpoint
use Rattle.checkpoint.specs.Checkpoint.{Writing, is_last, BlockWritten, Lent}
use Rattle.starts.specs.Restart.{start}
use Rattle.machine.specs.Calls.{Call, ask, begin, step, restart, Event, stepped, failed}
use Rattle.machine.specs.Transitions.{Phase, idle, writing, off, After, left_as, transition}
use Rattle.power_cut.specs.Cut.{Cut}
use Rattle.crash_safety.specs.Runs.{world, step_elsewhere}
use Rattle.crash_safety.specs.Book.{empty_book}
use Rattle.crash_safety.specs.Demand3.{limit_of, threshold_of, Limited, Holds}
use Rattle.crash_safety.specs.Batch.{WithinBatch}
use Rattle.crash_safety.specs.Disk.{Write, Disk, disk, area, synced, has_header, answers, survivors, failed_by}

pub data DiskItem : Type 0 where
  -- a call; a step or a restart is lent the area that the process sees
  does : Call → DiskItem
  -- a step that is lent memory of another length than the area's
  steps_on : List ℕ → DiskItem
  -- all that is pending becomes durable
  syncs : DiskItem
  -- the power fails, wherever the list stands, with a fate for each pending write
  fails : List Cut → DiskItem

-- who can be called, and the disk
pub record OnDisk : Type 0 where
  pub phase : Phase
  pub disk : Disk

abbrev pub on_disk : Phase → Disk → OnDisk
on_disk p d = record { phase = p; disk = d }

-- what an item gives: what is seen of it, none or several events, who can be called next, and the disk
pub record Then : Type 0 where
  pub seen : List Event
  pub world : OnDisk

abbrev pub leads : List Event → Phase → Disk → Option Then
leads es p d = some (record { seen = es; world = on_disk p d })

-- after these events, as a call on the area has it, on this disk
abbrev pub leads_as : List Event → Disk → Option After → Option Then
leads_as es d none = none
leads_as es d (some t) = leads (es ++ (t.event ∷ [])) t.phase d

-- a step is seen once its block is durable, and a refused one at once
abbrev pub step_seen : Result BlockWritten → List Event
step_seen (refused r) = stepped (refused r) ∷ []
step_seen (done b) = []

-- its block, as it is in the area that the step left, joins what is pending
abbrev pub with_block : Disk → Result BlockWritten → List ℕ → Disk
with_block d (refused r) a = d
with_block d (done b) a = disk d.held (d.pending ++ (record { place = b; bytes = block_at a b.block } ∷ []))

abbrev pub joins : Disk → Result BlockWritten → Lent → Option Then
joins d r l = leads (step_seen r) (left_as l.left) (with_block d r l.area)

abbrev pub is_none : List Write → Bool
is_none [] = true
is_none (w ∷ ws) = false

-- it is the header's turn, and something is pending
abbrev pub too_early : Phase → Disk → Bool
too_early (idle s) d = false
too_early (writing w) d = is_last w && not (is_none d.pending)
too_early off d = false

abbrev pub step_onto : Disk → Writing → Option Then
step_onto d w = cond (too_early (writing w) d) none (joins d (checkpoint.step w (area d)).outcome (checkpoint.step w (area d)).state)

abbrev pub step_by : Phase → Disk → Option Then
step_by (idle s) d = none
step_by (writing w) d = step_onto d w
step_by off d = none

-- a worker's call, or the begin of a checkpoint
abbrev pub is_on_state : Call → Bool
is_on_state (ask w q) = true
is_on_state (begin w) = true
is_on_state step = false
is_on_state restart = false

-- until a header is durable none of these is made
abbrev pub unless_header : Disk → Option Then → Option Then
unless_header d x = cond (has_header d.pending) none x

-- one item; `none`: it can't be made where it stands. A restart, of this process or of another one after it ended, syncs before it reads
unfoldable pub next_on : Configuration → Phase → Disk → DiskItem → Option Then
next_on c p d (does (ask w q)) = unless_header d (leads_as [] d (transition c p (area d) (ask w q)))
next_on c p d (does (begin w)) = unless_header d (leads_as [] d (transition c p (area d) (begin w)))
next_on c p d (does step) = step_by p d
next_on c p d (does restart) = leads_as (answers d.pending) (synced d) (transition c p (area d) restart)
next_on c p d (steps_on b) = unless_header d (leads_as [] d (step_elsewhere c (world p (area d)) b))
next_on c p d syncs = leads (answers d.pending) p (synced d)
next_on c p d (fails ks) = leads (failed (has_header (survivors d.pending ks)) ∷ []) off (failed_by d ks)

-- what is seen of a list. What can't be made where it stands is skipped: it is not seen and changes nothing
unfoldable pub run_on : Configuration → OnDisk → List DiskItem → List Event
run_on c w [] = []
run_on c w (i ∷ is) = elim (next_on c w.phase w.disk i) [ none ↦ run_on c w is | some t ↦ t.seen ++ run_on c t.world is ]

-- who can be called after a list, and the disk then
unfoldable pub ends_on : Configuration → OnDisk → List DiskItem → OnDisk
ends_on c w [] = w
ends_on c w (i ∷ is) = elim (next_on c w.phase w.disk i) [ none ↦ ends_on c w is | some t ↦ ends_on c t.world is ]

-- a fresh consumer on a zeroed disk
abbrev pub fresh_disk : State → ℕ → OnDisk
fresh_disk s n = on_disk (idle s) (disk (replicate n 0) [])

-- the restarts in a list
abbrev pub restart_on : DiskItem → ℕ
restart_on (does (ask w q)) = 0
restart_on (does (begin w)) = 0
restart_on (does step) = 0
restart_on (does restart) = 1
restart_on (steps_on b) = 0
restart_on syncs = 0
restart_on (fails ks) = 0

unfoldable pub restarts_on : List DiskItem → ℕ
restarts_on [] = 0
restarts_on (i ∷ is) = restart_on i + restarts_on is

-- ## the demand, and the bound over the whole batch
pub record HoldsOn (c : Configuration) (restarts : ℕ) (es : List Event) : Type 0 where
  pub holds : Holds c empty_book restarts es
  pub batch : Limited c → WithinBatch (limit_of c) (threshold_of c) restarts es

-- demand 3 on a disk that keeps no order. Of every list, from every fresh consumer on a zeroed disk
unfoldable pub Unordered : Type 0
Unordered =
    (c : Configuration) (size : ℕ) (s : State) (items : List DiskItem) → Fits c.settings → start c size ≡ done s
    → HoldsOn c (restarts_on items) (run_on c (fresh_disk s size) items)
