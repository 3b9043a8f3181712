-- The lists of Runs.antt are lists on the disk: a sync follows each step, and a power failure in a step is that step with a power failure
-- after it. So Demand3 follows from Unordered. And after every list on the disk a power failure leaves what BlockByBlock of Disk.antt says.
-- SPEC.md, "Disk".
use Rattle.std.specs.Prelude.{ℕ, ◌≡◌, List, []}
use Rattle.types.specs.Refusal.{done}
use Rattle.consumer.specs.State.{Configuration, State}
use Rattle.consumer.specs.Valid.{Fits}
use Rattle.starts.specs.Restart.{start}
use Rattle.crash_safety.specs.Runs.{Item, run, ends, fresh_world}
use Rattle.crash_safety.specs.Demand3.{restarts_in}
use Rattle.crash_safety.specs.Disk.{disk, EachBlock}
use Rattle.crash_safety.specs.Unordered.{DiskItem, on_disk, run_on, ends_on, fresh_disk, restarts_on}

-- a list on the disk that is seen as the other one is, and leaves the same, with nothing pending
pub record SeenAs (c : Configuration) (size : ℕ) (s : State) (items : List Item) : Type 0 where
  pub list : List DiskItem
  pub seen : run_on c (fresh_disk s size) list ≡ run c (fresh_world s size) items
  pub leaves : ends_on c (fresh_disk s size) list ≡ on_disk (ends c (fresh_world s size) items).phase (disk (ends c (fresh_world s size) items).journal [])
  pub restarts : restarts_on list ≡ restarts_in items

-- demand 3's lists are lists on the disk. For each there is one of which the same is seen, with as many restarts, and
-- which leaves the same with nothing pending
unfoldable pub AsToday : Type 0
AsToday =
    (c : Configuration) (size : ℕ) (s : State) (items : List Item) → Fits c.settings → start c size ≡ done s → SeenAs c size s items

-- `block-by-block` after every list on the disk
unfoldable pub FailsBlockByBlock : Type 0
FailsBlockByBlock =
    (c : Configuration) (size : ℕ) (s : State) (items : List DiskItem) → Fits c.settings → start c size ≡ done s
    → EachBlock (ends_on c (fresh_disk s size) items).disk
