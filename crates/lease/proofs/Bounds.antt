-- Places of leases: that one is within its column, and how far what is in use goes. Assumes nothing.
use Prim.Native.Nat.{ℕ, ◌+◌, ◌≤◌, ◌<◌}
use native.Mathlib.Omega.{arith}
use mathlib.Core.Path.{◌≡◌}
use Rattle.types.specs.Limits.{LEASES}

-- a place before the end of what is in use
pub in_use : {i n : ℕ} → i < n → n ≤ LEASES → i < LEASES
in_use h k = omega (arith, h, k)

-- ## steps
pub up_one : (i : ℕ) → i ≤ i + 1
up_one i = omega arith

pub from_first : (n : ℕ) → 0 ≤ n
from_first n = omega arith

pub up_to : {i n : ℕ} → i < n → i + 1 ≤ n
up_to h = omega (arith, h)

-- what is in use is within a column
pub within : {m n k : ℕ} → m ≡ k → n ≤ k → n ≤ m
within e h = omega (arith, e, h)
