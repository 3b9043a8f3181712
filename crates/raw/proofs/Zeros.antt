-- A test of each byte for 0 is the definition's.
-- Assumes nothing.
use Prim.Native.Nat.{ℕ}
use mathlib.Core.Path.{◌≡◌, refl, ap}
use mathlib.Core.Bool.{Bool, ◌&&◌}
use mathlib.Core.List.{List, [], ◌∷◌}
use lib.Dec.{eqb}
use Rattle.std.specs.List.{list_all}
use Rattle.raw.specs.Bytes.{all_zero}

pub zeros_are_all : (bs : List ℕ) → list_all (λ b. eqb b 0) bs ≡ all_zero bs
zeros_are_all [] = refl
zeros_are_all (b ∷ bs) = ap (λ (r : Bool). eqb b 0 && r) (zeros_are_all bs)
