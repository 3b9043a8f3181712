-- Lists that begin with an import, from its first finished checkpoint on, which is where a server begins. What the journal then has is what the
-- two snapshots had; demand 3 holds with what was counted before; and no token from before the first generation is accepted: the day of the move.
-- SPEC.md, "Import".
use Rattle.std.specs.Prelude.{ℕ, ◌+◌, ◌*◌, ◌-◌, ◌≤◌, ◌<◌, ◌≡◌, cond, List, [], ◌∷◌}
use Rattle.std.proofs.Math.Option.{Option, some}
use Rattle.types.specs.Limits.{MAX}
use Rattle.types.specs.Refusal.{Result, refused, done, Fenced}
use Rattle.types.specs.Keyed.{Entry, lookup}
use Rattle.raw.specs.Bytes.{IsBytes}
use Rattle.cursor.specs.Cursor.{Cursor, settled}
use Rattle.cursor.specs.Snapshot.{decode_cursor}
use Rattle.attempt.specs.Snapshot.{decode_attempts}
use Rattle.consumer.specs.State.{Configuration, State, count_or0}
use Rattle.consumer.specs.Rights.{checkpointing}
use Rattle.consumer.specs.Valid.{Fits}
use Rattle.checkpoint.specs.Checkpoint.{flushed}
use Rattle.starts.specs.Restart as restarts
use Rattle.starts.specs.Import.{import}
use Rattle.machine.specs.Calls.{Ask, ask, Event}
use Rattle.machine.specs.Transitions.{Phase, idle}
use Rattle.crash_safety.specs.Runs.{Item, World, world, run, ends, fresh_world}
use Rattle.crash_safety.specs.Effects.{restarting}
use Rattle.crash_safety.specs.Book.{Page, blank, book_after}
use Rattle.crash_safety.specs.Demand3.{delivers, hand_outs, Right, restarts_in, limit_of, threshold_of, Limited}
use Rattle.crash_safety.specs.Workers.{operation_of, rows_for, May, refusal_of, token_in, or_else}
use Rattle.crash_safety.specs.Settled.{state_in}
use Rattle.crash_safety.specs.Useful.{AllAccepted, checkpoint}
use Rattle.crash_safety.specs.Commits.{FencedAfter}
use Rattle.crash_safety.specs.Disk.{Disk, disk}
use Rattle.crash_safety.specs.Unordered.{DiskItem, does, OnDisk, on_disk, leads, next_on, run_on, ends_on, restarts_on}
use Rattle.crash_safety.specs.FailedSyncs.{Tried, AfterTries}
use Rattle.crash_safety.specs.Law.{Agrees}
use Rattle.crash_safety.specs.From.{book_from, HoldsFrom}
use Rattle.crash_safety.specs.Reconfigured.{Handed, run_each, ends_each, Each, Accepted, HoldsEach}

-- ## the beginning
-- what two snapshots have, as they were read: the settled offsets, and the count of each other one. Bytes that are no snapshots are never imported
abbrev pub page_read : Result Cursor → Result (List (Entry ℕ)) → Page
page_read (refused r) y = blank
page_read (done k) (refused r) = blank
page_read (done k) (done l) = record { settled = settled k; count = λ o. cond (settled k o) 0 (count_or0 (lookup o l)) }

abbrev pub snapshots_page : (cursor attempts : List ℕ) → Page
snapshots_page cursor attempts = page_read (decode_cursor cursor) (decode_attempts attempts)

-- an import that isn't refused, of an area of so many zeroed bytes, and a worker who may make its first checkpoint; that numbers and bytes fit
-- is what their types say
pub record Imported (c : Configuration) (size first : ℕ) (cursor attempts : List ℕ) (s : State) (v : ℕ) : Type 0 where
  pub settings : Fits c.settings
  pub generation : first ≤ MAX
  pub cursor-bytes : IsBytes cursor
  pub attempt_bytes_lem : IsBytes attempts
  pub answered : import c size first cursor attempts ≡ done s
  pub may : May c v checkpointing

-- who can be called after that checkpoint, and the journal then; and the same on a disk that has it all
abbrev pub moved_in : Configuration → ℕ → State → ℕ → World
moved_in c size s v = ends c (fresh_world s size) (checkpoint v s)

abbrev pub moved_onto : Configuration → ℕ → State → ℕ → OnDisk
moved_onto c size s v = on_disk (moved_in c size s v).phase (disk (moved_in c size s v).journal [])

-- ## what is found
pub record Arrives (c : Configuration) (size : ℕ) (cursor attempts : List ℕ) (s : State) (v : ℕ) : Type 0 where
  -- neither begin nor a step is refused, and the consumer goes on with what the snapshots have
  pub wrote : AllAccepted (run c (fresh_world s size) (checkpoint v s))
  pub goes_on : (moved_in c size s v).phase ≡ idle (flushed s)
  pub agrees : Agrees (snapshots_page cursor attempts) (flushed s)
  -- a restart isn't refused either, and finds it
  pub found : Right (snapshots_page cursor attempts) (restarting (restarts.restart c (moved_in c size s v).journal))

-- a restart on the journal of an import's first checkpoint finds what the two snapshots had
unfoldable pub ImportFound : Type 0
ImportFound =
    (c : Configuration) (size first : ℕ) (cursor attempts : List ℕ) (s : State) (v : ℕ) → Imported c size first cursor attempts s v
    → Arrives c size cursor attempts s v

-- ## demand 3
pub record HoldsMoved (c : Configuration) (p : Page) (first restarts : ℕ) (es : List Event) (left : Option State) : Type 0 where
  -- the demand and the bound over the batch, with what was counted before; no generation below the first one is handed out
  pub holds : HoldsFrom c p first restarts es left
  -- an offset that came with count k is delivered at most M − k times, not below 0, and C × (N + 1)
  pub delivered : Limited c → (o : ℕ) → hand_outs (delivers o) es ≤ limit_of c - p.count o + restarts * (threshold_of c + 1)

-- every list
unfoldable pub ImportHolds : Type 0
ImportHolds =
    (c : Configuration) (size first : ℕ) (cursor attempts : List ℕ) (s : State) (v : ℕ) (items : List Item) → Imported c size first cursor attempts s v
    → HoldsMoved c (snapshots_page cursor attempts) first (restarts_in items) (run c (moved_in c size s v) items)
    (state_in (ends c (moved_in c size s v) items).phase)

-- on a disk that keeps no order between two syncs
unfoldable pub ImportOnDisk : Type 0
ImportOnDisk =
    (c : Configuration) (size first : ℕ) (cursor attempts : List ℕ) (s : State) (v : ℕ) (items : List DiskItem) → Imported c size first cursor attempts s v
    → HoldsMoved c (snapshots_page cursor attempts) first (restarts_on items) (run_on c (moved_onto c size s v) items)
    (state_in (ends_on c (moved_onto c size s v) items).phase)

-- and there with a configuration of its own for each restart
unfoldable pub ImportReconfigured : Type 0
ImportReconfigured =
    (c : Configuration) (size first : ℕ) (cursor attempts : List ℕ) (s : State) (v : ℕ) (hs : List Handed) → Imported c size first cursor attempts s v
    → Each Accepted hs
    → HoldsEach c (snapshots_page cursor attempts) first hs (run_each (moved_onto c size s v) hs) (state_in (ends_each (moved_onto c size s v) hs).phase)

-- syncs that fail: what they leave is what a restart or a power failure in such a list leaves
unfoldable pub ImportFailedSyncs : Type 0
ImportFailedSyncs =
    (c : Configuration) (size first : ℕ) (cursor attempts : List ℕ) (s : State) (v : ℕ) (items : List DiskItem) → Imported c size first cursor attempts s v
    → (a : List ℕ) → Tried (ends_on c (moved_onto c size s v) items).disk a
    → AfterTries c (book_after (book_from (snapshots_page cursor attempts)) (run_on c (moved_onto c size s v) items)) (ends_on c (moved_onto c size s v) items).disk a

-- ## a server that begins with a restart on that journal
-- with whatever configuration, as where the import was a command of its own; this restart isn't one of the C
pub record Reopens (c : Configuration) (p : Page) (first : ℕ) (a : List ℕ) (s : State) : Type 0 where
  pub holds : (items : List Item) → HoldsMoved c p first (restarts_in items) (run c (world (idle s) a) items) (state_in (ends c (world (idle s) a) items).phase)
  -- a token below the first generation, as below
  pub fenced : (items : List Item) (o g : ℕ) → g < first → FencedAfter c (world (idle s) a) items o g

-- demand 3, and no token from before, of lists that begin with a restart on an import's journal, with any configuration
unfoldable pub ImportReopened : Type 0
ImportReopened =
    (c : Configuration) (size first : ℕ) (cursor attempts : List ℕ) (s : State) (v : ℕ) → Imported c size first cursor attempts s v
    → (d : Configuration) (r : State) → Accepted d → restarts.restart d (moved_in c size s v).journal ≡ done r
    → Reopens d (snapshots_page cursor attempts) first (moved_in c size s v).journal r

-- ## tokens from before
-- a token below the first generation: whatever comes before it, every call with it is refused 24, where 38 and 39 don't stand in front
unfoldable pub NoOldToken : Type 0
NoOldToken =
    (c : Configuration) (size first : ℕ) (cursor attempts : List ℕ) (s : State) (v : ℕ) (items : List Item) → Imported c size first cursor attempts s v
    → (o g : ℕ) → g < first → FencedAfter c (moved_in c size s v) items o g

-- on the disk
abbrev pub FencedOn : Configuration → OnDisk → List DiskItem → ℕ → ℕ → Type 0
FencedOn c w items o g =
    (x : ℕ) (q : Ask) → token_in q ≡ some (o, g) → (e : Event) (p : Phase) (d : Disk)
    → next_on c (ends_on c w items).phase (ends_on c w items).disk (does (ask x q)) ≡ leads (e ∷ []) p d
    → refusal_of e ≡ or_else (rows_for c x (operation_of q)) Fenced

-- no token from before the first generation is accepted on a disk that keeps no order
unfoldable pub NoOldTokenOnDisk : Type 0
NoOldTokenOnDisk =
    (c : Configuration) (size first : ℕ) (cursor attempts : List ℕ) (s : State) (v : ℕ) (items : List DiskItem) → Imported c size first cursor attempts s v
    → (o g : ℕ) → g < first → FencedOn c (moved_onto c size s v) items o g
