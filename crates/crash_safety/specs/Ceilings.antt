-- The ceiling never falls: whatever state a list has reached, no restart after it answers a lower ceiling than that state has, and no later state has
-- one. So a server that remembers a ceiling can tell at a restart that its journal is older.
-- SPEC.md, "Bounds".
use Rattle.std.specs.Prelude.{ℕ, ◌≤◌, ◌≡◌, cond, List, [], ◌∷◌}
use Rattle.std.proofs.Math.Option.{Option, none, some}
use Rattle.types.specs.Refusal.{refused, done}
use Rattle.raw.specs.Bytes.{IsBytes}
use Rattle.consumer.specs.State.{Configuration, State}
use Rattle.consumer.specs.Valid.{Fits}
use Rattle.starts.specs.Restart.{restart}
use Rattle.machine.specs.Calls.{Event}
use Rattle.machine.specs.Transitions.{idle}
use Rattle.crash_safety.specs.Effects.{Effect, handing, settling, requeuing, renewing, restarting, nothing, effect_of}
use Rattle.crash_safety.specs.Runs.{Item, world, run, ends}
use Rattle.crash_safety.specs.Settled.{state_in}
use Rattle.crash_safety.specs.Disk.{disk, has_header}
use Rattle.crash_safety.specs.Unordered.{DiskItem, OnDisk, on_disk, run_on, ends_on}

-- what a restart answers has a ceiling of at least g
abbrev pub CeilingAtLeast : ℕ → Effect → Type 0
CeilingAtLeast g (handing o h) = Unit {0}
CeilingAtLeast g (settling named) = Unit {0}
CeilingAtLeast g (requeuing o) = Unit {0}
CeilingAtLeast g renewing = Unit {0}
CeilingAtLeast g (restarting (refused r)) = Unit {0}
CeilingAtLeast g (restarting (done s)) = g ≤ s.ceiling
CeilingAtLeast g nothing = Unit {0}

unfoldable pub CeilingsAtLeast : ℕ → List Event → Type 0
CeilingsAtLeast g [] = Unit {0}
CeilingsAtLeast g (e ∷ es) = CeilingAtLeast g (effect_of e) × CeilingsAtLeast g es

-- so it is of every restart among the events, and of the state that is left
pub record NoLower (g : ℕ) (es : List Event) (left : Option State) : Type 0 where
  pub restarts : CeilingsAtLeast g es
  pub state : (y : State) → left ≡ some y → g ≤ y.ceiling

-- the ceiling never falls, from any journal that a restart accepts. A list, the state that it leaves, and whatever
-- comes then
unfoldable pub CeilingNeverFalls : Type 0
CeilingNeverFalls =
    (c : Configuration) (a : List ℕ) (s : State) (before after : List Item) → Fits c.settings → IsBytes a → restart c a ≡ done s
    → (x : State) → state_in (ends c (world (idle s) a) before).phase ≡ some x
    → NoLower x.ceiling (run c (ends c (world (idle s) a) before) after) (state_in (ends c (ends c (world (idle s) a) before) after).phase)

-- on the disk: a state whose header is pending isn't one yet
abbrev pub state_on : OnDisk → Option State
state_on w = cond (has_header w.disk.pending) none (state_in w.phase)

-- `ceiling-never-falls` on the disk
unfoldable pub CeilingOnDisk : Type 0
CeilingOnDisk =
    (c : Configuration) (a : List ℕ) (s : State) (before after : List DiskItem) → Fits c.settings → IsBytes a → restart c a ≡ done s
    → (x : State) → state_on (ends_on c (on_disk (idle s) (disk a [])) before) ≡ some x
    → NoLower x.ceiling (run_on c (ends_on c (on_disk (idle s) (disk a [])) before) after)
    (state_on (ends_on c (ends_on c (on_disk (idle s) (disk a [])) before) after))
