-- A fresh consumer is a restart on zeros: neither half opens, the walk over them meets no group, and no header stands behind. Assumes
-- nothing.
use Prim.Native.Nat.{ℕ}
use mathlib.Core.Path.{◌≡◌}
use mathlib.Core.List.{List}
use lib.ListN.{length, replicate, length-replicate}
use Rattle.journal.proofs.Blocks.{zeros}
use Rattle.journal.proofs.Walks.{headless-zeros, walk-zeros, none-behind}
use Rattle.consumer.specs.State.{Configuration, next_group_at, half_blocks}
use Rattle.starts.specs.Restart.{start, origin, limit, from_walk, restart}
use Rattle.starts.proofs.Halves.{opens_not, not_unfit, origin_none}

pub origin-zeros : (n : ℕ) → origin (replicate n 0) ≡ next_group_at 1 0
origin-zeros n =
    let a : List ℕ = replicate n 0 in
    origin_none a (opens_not a 0 (headless-zeros a (zeros n) 0)) (opens_not a (half_blocks (length a)) (headless-zeros a (zeros n) (half_blocks (length a))))

pub start-restart : (c : Configuration) (n : ℕ) → start c n ≡ restart c (replicate n 0)
unfolding start restart from_walk
start-restart c n =
    let a : List ℕ = replicate n 0 in
    let unfit = not_unfit a 0 (headless-zeros a (zeros n) 0) 1 in
    let behind = none-behind a (limit a) 0 (λ j l h. headless-zeros a (zeros n) j) in
    rw (walk-zeros a (zeros n) (limit a) (origin a).number (origin a).block, origin-zeros n) (rw (rw (origin-zeros n) at unfit, rw (origin-zeros n) at behind, length-replicate))
