-- A sync that fails. The disk may then have any of the pending writes, or torn blocks in their places, while the system shows them all and a later
-- sync has nothing to write. So the server calls nobody, writes every block since the last sync that succeeded again, in their order, and syncs; if
-- that fails too, once more. A sync that succeeds then leaves what the process saw, for a restart to read; and if the power fails meanwhile, what
-- is left is what one power failure may leave. So in a list of Unordered.antt all of this is a restart, or a power failure.
-- SPEC.md, "Disk".
use Rattle.std.specs.Prelude.{ℕ, ◌≡◌, List}
use Rattle.types.specs.Refusal.{done}
use Rattle.consumer.specs.State.{Configuration, State}
use Rattle.consumer.specs.Valid.{Fits}
use Rattle.starts.specs.Restart.{start}
use Rattle.power_cut.specs.Cut.{Cut}
use Rattle.crash_safety.specs.Book.{Book, empty_book, book_after}
use Rattle.crash_safety.specs.Disk.{Disk, written, area, answers, survivors, failed_by}
use Rattle.crash_safety.specs.Unordered.{DiskItem, run_on, ends_on, fresh_disk}
use Rattle.crash_safety.specs.ForGood.{FindsNow}

-- what the disk may have, unseen, after syncs that failed: all pending writes were made, or made again, before each, and each has left any of them
pub data Tried (d : Disk) : List ℕ → Type 0 where
  not_yet : Tried d d.held
  fails : (a : List ℕ) (ks : List Cut) → Tried d a → Tried d (written a (survivors d.pending ks))

-- fates by which one power failure leaves this area
pub record LeftBy (d : Disk) (a : List ℕ) : Type 0 where
  pub fates : List Cut
  pub left : (failed_by d fates).held ≡ a

pub record AfterTries (c : Configuration) (b : Book) (d : Disk) (a : List ℕ) : Type 0 where
  -- all writes made again, and a sync that succeeds; a restart then finds the book's copy, which a header among them has renewed
  pub durable : written a d.pending ≡ area d
  pub found : FindsNow c (written a d.pending) (book_after b (answers d.pending)).copy
  -- the power fails instead, at any point of that, whatever becomes of what was written again
  pub lost : (ks : List Cut) → LeftBy d (written a (survivors d.pending ks))

-- writing again and a sync that succeeds make good failed ones. After every list on the disk
unfoldable pub FailedSyncs : Type 0
FailedSyncs =
    (c : Configuration) (size : ℕ) (s : State) (items : List DiskItem) → Fits c.settings → start c size ≡ done s
    → (a : List ℕ) → Tried (ends_on c (fresh_disk s size) items).disk a
    → AfterTries c (book_after empty_book (run_on c (fresh_disk s size) items)) (ends_on c (fresh_disk s size) items).disk a
