-- The area that a consumer is started on is one that the journal's functions take, and is two equal halves of 9 blocks at least; and
-- the half in use, by its ends. Assumes nothing.
use Prim.Native.Nat.{ℕ, ◌+◌, ◌/◌, ◌%◌, ◌≤◌, ◌<◌}
use native.Mathlib.Omega.{arith}
use mathlib.Core.Path.{◌≡◌}
use mathlib.Core.Bool.{true, false, not, ◌||◌}
use lib.Dec.{eqb, ltb}
use borrow.Author.Tests.{eqb-true, ltb-true, ltb-false, not-false}
use Rattle.types.proofs.Cases.{split, neither}
use Rattle.journal.specs.Area.{bad_length}
use Rattle.consumer.specs.State.{bad_area, half_blocks, in_second, half_end}

pub record Halves (n : ℕ) : Type 0 where
  pub taken : bad_length n ≡ false
  pub equal : half_blocks n + half_blocks n ≡ n / 512
  pub enough : 9 ≤ half_blocks n

pub area-halves : (n : ℕ) → bad_area n ≡ false → Halves n
unfolding bad_area
area-halves n e =
    let h = neither (bad_length n || not (eqb (n / 512 % 2) 0)) (ltb (n / 512) 18) e in
    let o = neither (bad_length n) (not (eqb (n / 512 % 2) 0)) h.0 in
    let even : n / 512 % 2 ≡ 0 = eqb-true (n / 512 % 2) 0 (not-false _ o.1) in
    let many : 18 ≤ n / 512 = ltb-false (n / 512) 18 h.1 in
    record { taken = o.0; equal = omega arith; enough = omega arith }

pub area-taken : (n : ℕ) → bad_area n ≡ false → bad_length n ≡ false
area-taken n e = (area-halves n e).taken

-- ## the half in use
-- it is the first, up to its end, or the second, behind its first block
pub data InUse (n block : ℕ) : Type 0 where
  first : block ≤ half_blocks n → in_second n block ≡ false → InUse n block
  second : half_blocks n < block → in_second n block ≡ true → InUse n block

pub in_use : (n block : ℕ) → InUse n block
in_use n block =
    split (in_second n block) (λ t. second (ltb-true (half_blocks n) block t) t) (λ t. first (ltb-false (half_blocks n) block t) t)

-- the next block lies before the end of its half
pub before-end : (n block : ℕ) → block ≤ n / 512 → block ≤ half_end n block
before-end n block h = go (in_use n block)
  where
    go : InUse n block → block ≤ half_end n block
    go (first l e) = rw e (omega arith)
    go (second l e) = rw e h
