-- The place behind a block, where the block is a part of the area. Assumes nothing.
use Prim.Native.Nat.{ℕ, ◌+◌, ◌*◌, ◌-◌}
use native.Mathlib.Omega.{arith}
use native.Mathlib.Numerals.{add-one}
use mathlib.Core.Path.{◌≡◌}
use mathlib.Core.List.{List}
use lib.ListN.{take, drop}
use Rattle.journal.specs.Area.{block_at}
use Rattle.inspect.specs.Places.{end_of, place_after, place_at}
use Rattle.inspect.specs.declared.places.Place.{Place}

-- the part of the area that a block is
pub part-is-block : (a : List ℕ) (i : ℕ) → take (512 * i + 512 - 512 * i) (drop (512 * i) a) ≡ block_at a i
unfolding block_at
part-is-block a i =
    let r : 512 * i + 512 - 512 * i ≡ 512 = omega arith in
    rw r

pub place-next : (a : List ℕ) (i m : ℕ) (p : Place) → p ≡ place_at a i m
    → place_after p (end_of a i) (i + m) (take (512 * (i + m) + 512 - 512 * (i + m)) (drop (512 * (i + m)) a)) ≡ place_at a i (m + 1)
unfolding place_at
place-next a i m p e = rw (part-is-block a (i + m), e, add-one m)
