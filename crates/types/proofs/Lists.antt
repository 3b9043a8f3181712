-- A list answered into lent memory: refused where it doesn't fit, and what a loop that fills the places has to show; and how often
-- a number stands in two lists together.
-- Assumes nothing.
use Prim.Native.Nat.{ℕ, ◌+◌, ◌≤◌, ◌<◌}
use native.Mathlib.Omega.{arith}
use mathlib.Core.Path.{◌≡◌}
use mathlib.Core.List.{List, [], ◌∷◌, ◌++◌}
use lib.ListN.{length, take, drop, take-append-drop}
use borrow.Author.Tests.{lt-ltb, le-ltb}
use Rattle.types.specs.Refusal.{refused, done, OutTooShort}
use Rattle.types.specs.Table.{answer}
use Rattle.types.specs.Lists.{listed, times}

module _ {A : Type 0} (list out : List A) where
  pub listed-short : length out < length list → answer (refused OutTooShort) out ≡ listed list out
  listed-short h = rw (lt-ltb (length out) (length list) h)

  pub listed-filled : (n : ℕ) (after : List A) → length list ≡ n → n ≤ length out → take n after ≡ list → drop n after ≡ drop n out
      → answer (done n) after ≡ listed list out
  listed-filled n after e h p q =
      rw (le-ltb (length out) (length list) (omega arith), e, ← p, ← q, take-append-drop n after)

pub times-append : (x : ℕ) (k l : List ℕ) → times x (k ++ l) ≡ times x k + times x l
times-append x [] l = omega arith
times-append x (y ∷ k) l = omega (arith, times-append x k l)
