-- Nothing forgotten: whatever a list leaves, what is settled was settled by an Ack, a Term or a Commit of that list. A list that
-- ends in a restart leaves what the restart found, so this is said of every restart too.
-- SPEC.md, "Book".
use Rattle.std.specs.Prelude.{ℕ, ◌≡◌, Bool, true, false, ◌||◌, List, [], ◌∷◌}
use Rattle.std.proofs.Math.Option.{Option, none, some}
use Rattle.types.specs.Refusal.{done}
use Rattle.cursor.specs.Cursor.{settled}
use Rattle.consumer.specs.State.{Configuration, State}
use Rattle.consumer.specs.Valid.{Fits}
use Rattle.starts.specs.Restart.{start}
use Rattle.machine.specs.Calls.{Event}
use Rattle.machine.specs.Transitions.{Phase, idle, writing, off}
use Rattle.crash_safety.specs.Effects.{Effect, handing, settling, requeuing, renewing, restarting, nothing, effect_of}
use Rattle.crash_safety.specs.Runs.{Item, run, ends, fresh_world}

-- an Ack or a Term of the offset, or a Commit above it, that is not refused
abbrev pub settles : Effect → ℕ → Bool
settles (handing o h) x = false
settles (settling named) x = named x
settles (requeuing o) x = false
settles renewing x = false
settles (restarting a) x = false
settles nothing x = false

unfoldable pub settled_in : List Event → ℕ → Bool
settled_in [] x = false
settled_in (e ∷ es) x = settles (effect_of e) x || settled_in es x

-- the consumer's state, in hand or in a writing record
abbrev pub state_in : Phase → Option State
state_in (idle s) = some s
state_in (writing w) = some w.state
state_in off = none

-- what a list leaves settled was settled by a call of it. Of every list, from every fresh consumer on a zeroed journal
unfoldable pub NothingForgotten : Type 0
NothingForgotten =
    (c : Configuration) (size : ℕ) (s : State) (items : List Item) → Fits c.settings → start c size ≡ done s
    → (left : State) → state_in (ends c (fresh_world s size) items).phase ≡ some left
    → (o : ℕ) → settled left.cursor o ≡ true → settled_in (run c (fresh_world s size) items) o ≡ true
