-- Worn blocks. No list of demand 3, wherever the power fails in it, leaves a block behind the groups, in the half in use,
-- that has kind 1 and a right check, so that no restart is refused for one. And where any one block of a journal loses its check, a
-- restart answers as before if the block lies outside the groups of the half in use, and is refused 5 with that block if it lies among
-- them, the last header and the first block of that half apart: for no other block is it taken back to an earlier checkpoint. Without
-- the first block of the half in use a restart reads the other half where a header opens it. Where none does, it
-- is refused 5 with block 0 if the first half still has a header, and else begins anew: so the first block of the first half is among
-- those that are refused until the second half is opened.
-- SPEC.md, "Restart".
use Rattle.std.specs.Prelude.{ℕ, ◌≤◌, ◌<◌, ◌≡◌, true, false, List, length}
use Rattle.std.proofs.Math.Option.{some}
use Rattle.types.specs.Refusal.{Refusal, refused, done, Damaged}
use Rattle.types.specs.Table.{Passed}
use Rattle.journal.specs.Area.{block_at, write_at, blocks}
use Rattle.journal.specs.Sound.{has_header_kind}
use Rattle.journal.specs.Walks.{Stop}
use Rattle.consumer.specs.State.{Configuration, State, half_blocks}
use Rattle.consumer.specs.Valid.{Fits}
use Rattle.starts.specs.Restart.{start_table, start, opens, origin, limit, walk_of, end_table, restart}
use Rattle.power_cut.specs.Cut.{is_torn}
use Rattle.crash_safety.specs.Runs.{Item, ends, fresh_world}

-- a journal that none of 1 to 5 refuses, and where its walk ended
pub record EndsAt (c : Configuration) (a : List ℕ) (end : Stop) : Type 0 where
  pub start : Passed (start_table c (length a))
  pub walks : walk_of a ≡ done end
  pub passes : Passed (end_table a end)

-- ## the journals of lists
-- from where the walk ended to the end of the half in use no block has kind 1 and a right check; and a restart is not refused
pub record Unworn (c : Configuration) (a : List ℕ) : Type 0 where
  pub end : Stop
  pub ends : EndsAt c a end
  pub clear : (i : ℕ) → end.block ≤ i → i < limit a → has_header_kind (block_at a i) ≡ false
  pub restarts : (r : Refusal) → restart c a ≡ refused r → ⊥

-- no list leaves a journal that looks worn. Of every list, from every fresh consumer on a zeroed journal
unfoldable pub NeverWorn : Type 0
NeverWorn =
    (c : Configuration) (size : ℕ) (s : State) (items : List Item) → Fits c.settings → start c size ≡ done s
    → Unworn c (ends c (fresh_world s size) items).journal

-- ## one worn block
-- block i is now b, whose check fails
pub record WornAt (c : Configuration) (a : List ℕ) (end : Stop) (i : ℕ) (b : List ℕ) : Type 0 where
  -- behind the groups of the half in use, or in the other half
  pub outside : ((origin a).block ≤ i → end.block ≤ i) → restart c (write_at a i b) ≡ restart c a
  -- among them, and not at the first block of that half
  pub among : (origin a).block < i → i < end.block → (end.last ≡ some i → ⊥) → restart c (write_at a i b) ≡ refused (Damaged i)
  -- the first block of the first half, where no header opens the second
  pub first : i ≡ 0 → opens a (half_blocks (length a)) ≡ false → 0 < end.block → (end.last ≡ some 0 → ⊥)
      → restart c (write_at a i b) ≡ refused (Damaged 0)

-- what a restart answers where one block is worn. Every journal, from a list or not, every block of it, and whatever
-- stands there then
unfoldable pub OneWornBlock : Type 0
OneWornBlock =
    (c : Configuration) (a : List ℕ) (end : Stop) (i : ℕ) (b : List ℕ) → EndsAt c a end → i < blocks a → is_torn b ≡ true
    → WornAt c a end i b
