-- A disk that keeps no order between two syncs: what it holds, and what is pending, the block writes since the last sync, oldest first. A
-- power failure leaves of each write nothing, the whole block, or 512 bytes whose check fails. So it leaves each block, whatever becomes of
-- the others, as it was held, as any one of its pending writes, or, if it has one, as any 512 bytes whose check fails (`BlockByBlock`).
-- SPEC.md, "Disk".
use Rattle.std.specs.Prelude.{ℕ, ◌<◌, ◌≡◌, Bool, true, false, cond, ◌||◌, List, [], ◌∷◌, length}
use Rattle.types.specs.Refusal.{done}
use Rattle.journal.specs.Area.{blocks, block_at, write_at}
use Rattle.checkpoint.specs.Checkpoint.{BlockWritten}
use Rattle.machine.specs.Calls.{Event, stepped}
use Rattle.power_cut.specs.Cut.{Cut, old, new, torn, is_torn}

-- a block write: the block and whether it is a checkpoint's header, as the step answered, and its 512 bytes
pub record Write : Type 0 where
  pub place : BlockWritten
  pub bytes : List ℕ

abbrev pub write : ℕ → Bool → List ℕ → Write
write i last b = record { place = record { block = i; last = last }; bytes = b }

pub record Disk : Type 0 where
  pub held : List ℕ
  pub pending : List Write

abbrev pub disk : List ℕ → List Write → Disk
disk a ws = record { held = a; pending = ws }

-- the area with these writes made, one after the other
unfoldable pub written : List ℕ → List Write → List ℕ
written a [] = a
written a (w ∷ ws) = written (write_at a w.place.block w.bytes) ws

-- what a process sees, the writes made in their order
abbrev pub area : Disk → List ℕ
area d = written d.held d.pending

-- a sync makes all of it durable
abbrev pub synced : Disk → Disk
synced d = disk (area d) []

-- a header is among the writes
unfoldable pub has_header : List Write → Bool
has_header [] = false
has_header (w ∷ ws) = w.place.last || has_header ws

-- what is seen of steps, once their blocks are durable
unfoldable pub answers : List Write → List Event
answers [] = []
answers (w ∷ ws) = stepped (done w.place) ∷ answers ws

-- ## a power failure
-- the writes that are left, by the fate of each; a torn block is no header. A write without a fate, or torn to bytes whose check is right, is lost
unfoldable pub survivors : List Write → List Cut → List Write
survivors [] ks = []
survivors (w ∷ ws) [] = []
survivors (w ∷ ws) (old ∷ ks) = survivors ws ks
survivors (w ∷ ws) (new ∷ ks) = w ∷ survivors ws ks
survivors (w ∷ ws) (torn b ∷ ks) = cond (is_torn b) (write w.place.block false b ∷ survivors ws ks) (survivors ws ks)

abbrev pub failed_by : Disk → List Cut → Disk
failed_by d ks = disk (written d.held (survivors d.pending ks)) []

-- ## what it leaves, block by block
-- one of the writes
pub data Among (w : Write) : List Write → Type 0 where
  first : {ws : List Write} → Among w (w ∷ ws)
  later : {x : Write} {ws : List Write} → Among w ws → Among w (x ∷ ws)

-- what may be left of block i
pub data LeftOf (d : Disk) (i : ℕ) (b : List ℕ) : Type 0 where
  as_held : b ≡ block_at d.held i → LeftOf d i b
  as_written : (w : Write) → Among w d.pending → w.place.block ≡ i → b ≡ w.bytes → LeftOf d i b
  as_torn : (w : Write) → Among w d.pending → w.place.block ≡ i → is_torn b ≡ true → LeftOf d i b

-- every pending write is of 512 bytes, into the area
abbrev pub Whole : Disk → Type 0
Whole d = (w : Write) → Among w d.pending → (w.place.block < blocks d.held) × (length w.bytes ≡ 512)

-- fates that leave these blocks
pub record LeavesAll (d : Disk) (f : ℕ → List ℕ) : Type 0 where
  pub fates : List Cut
  pub left : (i : ℕ) → i < blocks d.held → block_at (failed_by d fates).held i ≡ f i

pub record EachBlock (d : Disk) : Type 0 where
  -- whatever the fates, each block is left as it may be
  pub only : (ks : List Cut) (i : ℕ) → LeftOf d i (block_at (failed_by d ks).held i)
  -- and whatever may be left of each block, independently of the others, some fates leave
  pub any : (f : ℕ → List ℕ) → ((i : ℕ) → i < blocks d.held → LeftOf d i (f i)) → LeavesAll d f

-- a fate for each pending write is a choice for each block. And the other way round
unfoldable pub BlockByBlock : Type 0
BlockByBlock = (d : Disk) → Whole d → EachBlock d
