-- What a file for several journals says of each of them: whether it is free, unfinished or in use, by its mark, which is 512 bytes after
-- its last block, and by its blocks.
-- SPEC.md, "File".
use Rattle.std.specs.Prelude.{ℕ, ◌/◌, Bool, cond, ◌&&◌, ◌||◌, List, eqb, length, take, drop}
use Rattle.raw.specs.Bytes.{all_zero, number_at}
use Rattle.crc.specs.Seal.{is_sealed}
use Rattle.journal.specs.Area.{block_at}
use Rattle.journal.specs.Sound.{has_header_kind}
use Rattle.sectors.specs.declared.State.{State}
use Rattle.sectors.specs.declared.State.TheVariants.{Free, Unfinished, InUse}

-- the number of a mark: in front, with zeros behind it up to the check, which is right; otherwise 0
abbrev pub mark_of : List ℕ → ℕ
mark_of m = cond (all_zero (take 504 (drop 4 m)) && is_sealed m) (number_at 4 0 m) 0

-- all of a journal is zeros, its mark too
abbrev pub is_blank : (area mark : List ℕ) → Bool
is_blank a m = all_zero m && all_zero a

-- the first block of either half is of kind 1 and has a right check
abbrev pub is_begun : (area : List ℕ) → Bool
is_begun a = has_header_kind (block_at a 0) || has_header_kind (block_at a (length a / 1024))

-- 2 is in use, 1 unfinished; where the mark is none, the blocks say it
unfoldable pub state_of : (area mark : List ℕ) → State
state_of a m =
    cond (eqb (mark_of m) 2) InUse
    (cond (eqb (mark_of m) 1) Unfinished
    (cond (is_blank a m) Free
    (cond (is_begun a) InUse Unfinished)))
