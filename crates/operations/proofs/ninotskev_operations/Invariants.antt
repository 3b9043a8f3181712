-- The list is run, and the run ends. Assumes nothing.
use Prim.Native.Nat.{ℕ, ◌-◌, ◌+◌, ◌*◌, ◌/◌, ◌≤◌}
use mathlib.Core.Path.{◌≡◌}
use lib.ListN.{length, drop}
use Rattle.operations.specs.State.{Ready}
use Rattle.operations.proofs.ninotskev_operations.Given as goal

abbrev pub invariant-loop-from : goal.invariant-loop-from
invariant-loop-from l =
    Ready l.state × (l.from ≤ length l.ops) × (l.to ≤ length l.initial.out) × (length l.out ≡ length l.initial.out) × (l.from ≡ 5 * (l.to / 6)) × (l.to ≡ 6 * (l.to / 6))
    × ((k : ℕ) → l.to ≤ k → drop k l.out ≡ drop k l.initial.out)

abbrev pub decreases-loop-from : goal.decreases-loop-from
decreases-loop-from l = length l.ops - l.from
