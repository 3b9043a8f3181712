-- `first_open` meets its contract. The loop's invariant: no half hour before the one that it stands at is open; beyond the first it
-- stands at a midnight. Assumes nothing.
use Prim.Native.Nat.{ℕ, ◌+◌, ◌-◌, ◌≤◌, ◌<◌}
use mathlib.Core.Path.{◌≡◌}
use mathlib.Core.Bool.{false}
use Rattle.hours.specs.Hours.{open_half}
use Rattle.hours.proofs.first_open.Given as goal

abbrev pub invariant-loop-at : goal.invariant-loop-at
invariant-loop-at l =
    (l.from ≤ l.at) × (l.at ≤ l.from + 384) × ((k : ℕ) → l.from ≤ k → k < l.at → open_half l.days k ≡ false)

abbrev pub decreases-loop-at : goal.decreases-loop-at
decreases-loop-at l = l.from + 384 - l.at
