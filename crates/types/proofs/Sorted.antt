-- Laws of the place of a number in a sorted list: an element below the number lies before its place, any other does not,
-- so that a search by halves finds it.
-- Assumes nothing.
use Prim.Native.Nat.{ℕ, zero, suc, ◌+◌, ◌≤◌, ◌<◌}
use native.Mathlib.Omega.{arith}
use native.Mathlib.Nat.{le_of_suc-le-suc}
use native.Mathlib.Numerals.{add-one}
use mathlib.Core.Path.{◌≡◌, sym, ◌∙◌}
use mathlib.Core.List.{List, [], ◌∷◌}
use lib.Dec.{ltb, leb}
use lib.ListN.{length, take, get_or}
use lib.Seq.{length-take-le, get_or-take}
use borrow.Author.Tests.{lt-ltb, le-ltb, leb-true, leb-false}
use Rattle.types.specs.Sorted.{Ascending, below}
use Rattle.types.proofs.Cases.{split}

pub below-le : (x : ℕ) (ks : List ℕ) → below x ks ≤ length ks
below-le x [] = omega arith
below-le x (k ∷ ks) = split (ltb k x) (λ t. rw t (omega (arith, below-le x ks))) (λ t. rw t (omega arith))

pub ascending_at : (i lo : ℕ) (ks : List ℕ) → Ascending lo ks → i < length ks → lo ≤ get_or ks i 0
ascending_at i lo [] a h = absurd (omega arith)
ascending_at zero lo (k ∷ ks) a h = a.0
ascending_at (suc i) lo (k ∷ ks) a h = omega (arith, ascending_at i (suc k) ks a.1 (le_of_suc-le-suc h))

pub before-place : (x i lo : ℕ) (ks : List ℕ) → Ascending lo ks → i < length ks → get_or ks i 0 < x → i < below x ks
before-place x i lo [] a h t = absurd (omega arith)
before-place x zero lo (k ∷ ks) a h t = rw (lt-ltb k x t) (omega arith)
before-place x (suc i) lo (k ∷ ks) a h t =
    let g : i < length ks = le_of_suc-le-suc h in
    rw (lt-ltb k x (omega (arith, ascending_at i (suc k) ks a.1 g))) (omega (arith, before-place x i (suc k) ks a.1 g t))

pub not_before-place : (x i : ℕ) (ks : List ℕ) → i < length ks → x ≤ get_or ks i 0 → below x ks ≤ i
not_before-place x i [] h t = absurd (omega arith)
not_before-place x zero (k ∷ ks) h t = rw (le-ltb k x t) (omega arith)
not_before-place x (suc i) (k ∷ ks) h t =
    split (ltb k x)
    (λ s. rw s (omega (arith, not_before-place x i ks (le_of_suc-le-suc h) t)))
    (λ s. rw s (omega arith))

-- ## one comparison of a search among the first `len` elements of an array
module _ (x i len : ℕ) (keys : List ℕ) (inside : i < len) (fits : len ≤ length keys) where
  counted : i < length (take len keys)
  counted = rw (length-take-le len keys fits) inside

  pub place-right : Ascending 0 (take len keys) → get_or keys i 0 < x → i + 1 ≤ below x (take len keys)
  place-right a t = rw add-one (before-place x i 0 (take len keys) a counted (rw (get_or-take len keys i 0 inside) t))

  pub place-left : x ≤ get_or keys i 0 → below x (take len keys) ≤ i
  place-left t = not_before-place x i (take len keys) counted (rw (get_or-take len keys i 0 inside) t)

-- what is at most x is below the next number
pub up_to-next : (k x : ℕ) → ltb k (suc x) ≡ leb k x
up_to-next k x =
    split (leb k x)
    (λ t. lt-ltb k (suc x) (omega (arith, leb-true k x t)) ∙ sym t)
    (λ t. le-ltb k (suc x) (omega (arith, leb-false k x t)) ∙ sym t)
