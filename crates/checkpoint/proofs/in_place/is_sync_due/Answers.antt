-- `is_sync_due` meets its contract: the zeroed blocks are none, or half of the area. Assumes nothing.
use Prim.Native.Nat.{ℕ, ◌≤◌}
use native.Mathlib.Omega.{arith}
use Rattle.types.proofs.Cases.{split}
use Rattle.consumer.specs.State.{half_blocks}
use Rattle.checkpoint.specs.Checkpoint.{switches_at, zeroed_for}
use Rattle.checkpoint.proofs.in_place.is_sync_due.Goals as goal

at_most_half : (size block n : ℕ) → zeroed_for size block n ≤ half_blocks size
unfolding zeroed_for
at_most_half size block n = split (switches_at size block n) (λ p. rw p (omega arith)) (λ p. rw p (omega arith))

pub overflow_add-result : goal.overflow_add-result
overflow_add-result c =
    omega (arith, c.place_of-place.ensures.zeros, at_most_half c.args.area_len c.args.block c.bodies_of-bodies.result)
