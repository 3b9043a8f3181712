-- Whether a sync is due after each step of a checkpoint: after the last two steps, however many there are.
-- SPEC.md, "Checkpoint".
use Rattle.std.specs.Prelude.{ℕ, zero, suc, ◌-◌, ◌≤◌, ◌≡◌, Bool, true, false, List, [], ◌∷◌, ◌++◌, length, replicate}
use Rattle.types.specs.Refusal.{Result, refused, done}
use Rattle.consumer.specs.State.{State}
use Rattle.consumer.specs.Valid.{Valid}
use Rattle.checkpoint.specs.Checkpoint.{writes, Writing, begin, Left, going, finished, sync_due, BlockWritten, step}

-- what a record says of its next step, on an area; a step that is refused writes nothing
abbrev pub is_due : Writing → Result BlockWritten → Bool
is_due w (refused r) = false
is_due w (done b) = sync_due w

-- the same of up to n steps, each on what the one before left: the last one leaves no record to step
unfoldable pub syncs_due : ℕ → Left → List ℕ → List Bool
syncs_due zero l a = []
syncs_due (suc n) (finished s) a = []
syncs_due (suc n) (going w) a = is_due w (step w a).outcome ∷ syncs_due n (step w a).state.left (step w a).state.area

-- every record that a begin gives, on its own area
unfoldable pub TwoSyncsDue : Type 0
TwoSyncsDue =
    (s : State) (worker : ℕ) (r : Writing) (a : List ℕ) (n : ℕ) → Valid s → begin s worker ≡ done r → length a ≡ s.size → writes s ≤ n
    → syncs_due n (going r) a ≡ replicate (writes s - 2) false ++ (true ∷ true ∷ [])
