-- A checkpoint takes two syncs, however many blocks it writes: one after its zeros and bodies, one after its header.
-- SPEC.md, "Disk".
use Rattle.std.specs.Prelude.{ℕ, ◌+◌, ◌-◌, ◌≡◌, List, [], ◌∷◌, ◌++◌, replicate}
use Rattle.types.specs.Refusal.{done}
use Rattle.consumer.specs.State.{Configuration, State}
use Rattle.consumer.specs.Valid.{Fits}
use Rattle.checkpoint.specs.Checkpoint.{Writing, zeros, bodies, flushed}
use Rattle.starts.specs.Restart.{start}
use Rattle.machine.specs.Calls.{step}
use Rattle.machine.specs.Transitions.{idle, writing}
use Rattle.crash_safety.specs.Unordered.{DiskItem, does, syncs, OnDisk, ends_on, fresh_disk}

-- the rest of a checkpoint: the blocks that are left before the header, a sync, the header, a sync
abbrev pub rest_of : Writing → List DiskItem
rest_of w = replicate (zeros w.state + bodies w.state - w.written) (does step) ++ (syncs ∷ does step ∷ syncs ∷ [])

-- it is finished: the state that begin took has its new ceiling and a cleared counter, and nothing is pending
pub record Done (w : Writing) (left : OnDisk) : Type 0 where
  pub phase : left.phase ≡ idle (flushed w.state)
  pub durable : left.disk.pending ≡ []

-- two syncs finish a checkpoint. After every list that leaves a record, whatever is pending
unfoldable pub TwoSyncs : Type 0
TwoSyncs =
    (c : Configuration) (size : ℕ) (s : State) (items : List DiskItem) → Fits c.settings → start c size ≡ done s
    → (w : Writing) → (ends_on c (fresh_disk s size) items).phase ≡ writing w
    → Done w (ends_on c (ends_on c (fresh_disk s size) items) (rest_of w))
