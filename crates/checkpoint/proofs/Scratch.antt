-- A step on other bytes of the same length answers the same, leaves the same, and its block is the one that it writes on the journal.
-- Assumes nothing.
use Prim.Native.Nat.{ℕ}
use mathlib.Core.Path.{◌≡◌}
use mathlib.Core.Bool.{true, false}
use mathlib.Core.List.{List}
use lib.Dec.{eqb}
use lib.ListN.{length}
use borrow.Author.Tests.{eqb-true}
use Rattle.types.proofs.Cases.{split}
use Rattle.journal.proofs.Area.{write_same}
use Rattle.checkpoint.specs.Checkpoint.{Writing, next_place, next_block, step}
use Rattle.checkpoint.specs.Valid.{ValidWriting}
use Rattle.checkpoint.specs.Scratch.{written_from, AsOnJournal, LengthAlone}
use Rattle.checkpoint.proofs.Places.{next_fits, next-whole}

module _ (w : Writing) (journal scratch : List ℕ) (v : ValidWriting w) (same : length scratch ≡ length journal) where
  -- on another length both are refused
  apart : eqb (length journal) w.state.size ≡ false → AsOnJournal w journal scratch
  unfolding step written_from
  apart e =
      let there : eqb (length scratch) w.state.size ≡ false = rw same e in
      record { outcome = rw (e, there); left = rw (e, there); area = rw (e, there) }

  -- on its own, the block is read where it was written
  within : eqb (length journal) w.state.size ≡ true → AsOnJournal w journal scratch
  unfolding step written_from
  within e =
      let there : eqb (length scratch) w.state.size ≡ true = rw same e in
      let size : length scratch ≡ w.state.size = eqb-true (length scratch) w.state.size there in
      let block = write_same scratch (next_place w) (next_block w) (rw size (next_fits w v)) (next-whole w) in
      record { outcome = rw (e, there); left = rw (e, there); area = rw (e, there, block) }

pub length-alone : LengthAlone
unfolding LengthAlone
length-alone w journal scratch v same =
    split (eqb (length journal) w.state.size) (within w journal scratch v same) (apart w journal scratch v same)
