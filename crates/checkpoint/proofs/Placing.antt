-- What the code finds of a group's place and of its next block write, from its own comparisons. Assumes nothing.
use Prim.Native.Nat.{ℕ, suc, ◌+◌, ◌-◌, ◌≤◌, ◌<◌}
use native.Mathlib.Omega.{arith}
use native.Mathlib.Numerals.{add-one}
use mathlib.Core.Path.{◌≡◌, sym, ◌∙◌}
use mathlib.Core.Bool.{true, false}
use borrow.Author.Tests.{lt-ltb, le-ltb, le-leb, lt-leb}
use Rattle.journal.specs.declared.Header.{Header}
use Rattle.journal.specs.declared.Block.TheVariants as block
use Rattle.consumer.specs.State.{half_blocks, half_end, otherHalf}
use Rattle.checkpoint.specs.Checkpoint.{header_place, zeroed_for}
use Rattle.checkpoint.specs.Parts.{PlaceIs, NextIs}
use Rattle.checkpoint.specs.declared.in_place.Place.{Place}

module _ (size block n end : ℕ) (ends : end ≡ half_end size block) where
  pub place-moves : end < block + (n + 1) → (o z : ℕ) → o ≡ otherHalf size block → z ≡ half_blocks size
      → PlaceIs size block n (record { block = o; zeros = z })
  unfolding header_place zeroed_for
  place-moves h o z p q =
      let t = lt-ltb (half_end size block) (block + suc n) (omega (arith, ends)) in
      record { block = rw t p; zeros = rw t q }

  pub place-stays : block + (n + 1) ≤ end → PlaceIs size block n (record { block = block; zeros = 0 })
  unfolding header_place zeroed_for
  place-stays h =
      let t = le-ltb (half_end size block) (block + suc n) (omega (arith, ends)) in
      record { block = rw t; zeros = rw t }

module _ (place : Place) (n written : ℕ) (h : Header) where
  pub next-zeros : written < place.zeros
      → NextIs place n written h (record { at = place.block + written; block = block.Zeros; last = false })
  next-zeros l =
      let z = lt-ltb written place.zeros l in
      record { last = sym (lt-leb (place.zeros + n) written (omega arith)); at = rw z; block = rw z }

  module _ (l : place.zeros ≤ written) where
    pub next-header : place.zeros + n ≤ written
        → NextIs place n written h (record { at = place.block; block = block.Header h; last = true })
    next-header k =
        let z = le-ltb written place.zeros l in
        record { last = sym (le-leb (place.zeros + n) written k); at = rw z; block = rw z }

    pub next-body : written < place.zeros + n → (i : ℕ) → i ≡ written - place.zeros + 1
        → NextIs place n written h (record { at = place.block + i; block = block.Body h.number i; last = false })
    next-body k i e =
        let z = le-ltb written place.zeros l in
        let is : i ≡ suc (written - place.zeros) = e ∙ add-one (written - place.zeros) in
        record { last = sym (lt-leb (place.zeros + n) written k); at = rw (z, is); block = rw (z, is) }
