-- What is said of a journal, by each way to say it; and the first blocks of both halves as parts of an area. Assumes nothing.
use Prim.Native.Nat.{ℕ}
use mathlib.Core.Path.{◌≡◌, refl}
use mathlib.Core.Bool.{true, false}
use mathlib.Core.List.{List}
use lib.ListN.{take}
use borrow.Author.Tests.{ne_eqb}
use Rattle.journal.specs.Area.{block_at}
use Rattle.sectors.specs.Marks.{mark_of, is_blank, is_begun, state_of}
use Rattle.sectors.specs.declared.State.TheVariants.{Free, Unfinished, InUse}

pub front-block : (a : List ℕ) → block_at a 0 ≡ take 512 a
unfolding block_at
front-block a = refl

module _ (a m : List ℕ) where
  pub marked_in_use : mark_of m ≡ 2 → InUse ≡ state_of a m
  unfolding state_of
  marked_in_use e = rw e

  pub marked-unfinished : mark_of m ≡ 1 → Unfinished ≡ state_of a m
  unfolding state_of
  marked-unfinished e = rw e

  -- the mark is none
  module _ (not-2 : mark_of m ≡ 2 → ⊥) (not-1 : mark_of m ≡ 1 → ⊥) where
    pub free : is_blank a m ≡ true → Free ≡ state_of a m
    unfolding state_of
    free z = rw (ne_eqb (mark_of m) 2 not-2, ne_eqb (mark_of m) 1 not-1, z)

    pub begun : is_blank a m ≡ false → is_begun a ≡ true → InUse ≡ state_of a m
    unfolding state_of
    begun z h = rw (ne_eqb (mark_of m) 2 not-2, ne_eqb (mark_of m) 1 not-1, z, h)

    pub not_begun : is_blank a m ≡ false → is_begun a ≡ false → Unfinished ≡ state_of a m
    unfolding state_of
    not_begun z h = rw (ne_eqb (mark_of m) 2 not-2, ne_eqb (mark_of m) 1 not-1, z, h)
