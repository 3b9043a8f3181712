-- Numbers of eight bytes and of four, as the code puts them together and takes them apart: what is read is the number of the
-- list, and what is stored are the number's bytes. Assumes nothing.
use Prim.Native.Nat.{ℕ, suc, ◌+◌, ◌*◌, ◌<◌, ◌≤◌}
use native.Mathlib.Omega.{arith}
use native.Mathlib.Nat.{add-zero, add-suc}
use mathlib.Core.Path.{◌≡◌}
use mathlib.Core.List.{List}
use lib.ListN.{length, get_or}
use lib.Seq.{drop-cons}
use Rattle.raw.specs.Bytes.{number_at}
use Rattle.raw.specs.Word.{four_at, word_at}

module _ (bs : List ℕ) (i n : ℕ) (room : i + n ≤ length bs) where
  next : (k j : ℕ) → j < n → number_at (suc k) (i + j) bs ≡ get_or bs (i + j) 0 + 256 * number_at k (i + suc j) bs
  next k j h = rw (add-suc, drop-cons bs (i + j) 0 (omega arith))

module _ (bs : List ℕ) (i : ℕ) where
  pub word_number : i + 8 ≤ length bs → word_at bs i ≡ number_at 8 i bs
  word_number room =
      omega (
        arith,
        rw add-zero at (next bs i 8 room 7 0 (omega arith)),
        next bs i 8 room 6 1 (omega arith),
        next bs i 8 room 5 2 (omega arith),
        next bs i 8 room 4 3 (omega arith),
        next bs i 8 room 3 4 (omega arith),
        next bs i 8 room 2 5 (omega arith),
        next bs i 8 room 1 6 (omega arith),
        next bs i 8 room 0 7 (omega arith),
      )

  pub half-number : i + 4 ≤ length bs → four_at bs i (i + 1) (i + 2) (i + 3) ≡ number_at 4 i bs
  half-number room =
      omega (
        arith,
        rw add-zero at (next bs i 4 room 3 0 (omega arith)),
        next bs i 4 room 2 1 (omega arith),
        next bs i 4 room 1 2 (omega arith),
        next bs i 4 room 0 3 (omega arith),
      )
