-- Wear of any blocks. Whichever blocks of a list's journal lose their checks, a restart is refused 5, or answers just what a restart
-- would have answered after some first part of the list: the book's copy as of a header of the list, or nothing, and never a mixture.
-- Every header that is left names a group before the next one, every body that one at most, and no two headers the same group. And
-- where one block is worn that is not the last header, a restart that is neither refused nor as before leaves a header that names a later
-- group than the one it would write.
-- SPEC.md, "Restart".
use Rattle.std.specs.Prelude.{ℕ, ◌≤◌, ◌<◌, ◌≡◌, true, List, ◌++◌, length}
use Rattle.std.proofs.Math.Option.{some}
use Rattle.types.specs.Refusal.{Result, refused, done, Damaged}
use Rattle.crc.specs.Seal.{is_sealed}
use Rattle.journal.specs.Area.{block_at, write_at, blocks}
use Rattle.journal.specs.Blocks.{group_of}
use Rattle.journal.specs.Sound.{is_kind, has_header_kind}
use Rattle.journal.specs.Walks.{Stop}
use Rattle.consumer.specs.State.{Configuration, State}
use Rattle.consumer.specs.Valid.{Fits}
use Rattle.starts.specs.Restart.{start, walk_of, restart}
use Rattle.power_cut.specs.Cut.{is_torn}
use Rattle.crash_safety.specs.Book.{empty_book, book_after}
use Rattle.crash_safety.specs.Runs.{Item, World, run, ends, fresh_world}
use Rattle.crash_safety.specs.Demand3.{Finds}

-- a' is a with any blocks replaced, none or all, by bytes whose check fails: a block whose check is right is the one that was there
pub record Wear (a a' : List ℕ) : Type 0 where
  pub size : length a' ≡ length a
  pub kept : (i : ℕ) → i < blocks a → is_sealed (block_at a' i) ≡ true → block_at a' i ≡ block_at a i

-- ## any set of blocks
-- the state that a restart answered after a first part of the list, which is the book's copy then
pub record AsOf (c : Configuration) (w : World) (items : List Item) (r : State) : Type 0 where
  pub before : List Item
  pub after : List Item
  pub parts : before ++ after ≡ items
  pub answered : restart c (ends c w before).journal ≡ done r
  pub finds : Finds (book_after empty_book (run c w before)).copy r

pub data Unmixed (c : Configuration) (w : World) (items : List Item) : Result State → Type 0 where
  damaged : (i : ℕ) → Unmixed c w items (refused (Damaged i))
  as_of : {r : State} → AsOf c w items r → Unmixed c w items (done r)

-- a restart on worn blocks finds one checkpoint whole, or is refused. Of every list, from every fresh consumer on a
-- zeroed journal, and every wear of what it leaves
unfoldable pub NeverMixed : Type 0
NeverMixed =
    (c : Configuration) (size : ℕ) (s : State) (items : List Item) → Fits c.settings → start c size ≡ done s
    → (a' : List ℕ) → Wear (ends c (fresh_world s size) items).journal a' → Unmixed c (fresh_world s size) items (restart c a')

-- ## the groups that blocks name
-- kind 1 or 2 and a right check, beside the number of the next group
pub record NamesEarlier (a : List ℕ) (next : ℕ) : Type 0 where
  pub headers : (i : ℕ) → i < blocks a → has_header_kind (block_at a i) ≡ true → group_of (block_at a i) < next
  pub bodies : (i : ℕ) → i < blocks a → is_kind 2 (block_at a i) ≡ true → group_of (block_at a i) ≤ next
  pub apart : (i j : ℕ) → i < blocks a → j < blocks a → has_header_kind (block_at a i) ≡ true → has_header_kind (block_at a j) ≡ true
      → group_of (block_at a i) ≡ group_of (block_at a j) → i ≡ j

-- no worn journal names a group later than the next one. That is the next group of the consumer that a restart on the
-- journal gave before it was worn
unfoldable pub NoneNamedLater : Type 0
NoneNamedLater =
    (c : Configuration) (size : ℕ) (s : State) (items : List Item) → Fits c.settings → start c size ≡ done s
    → (a' : List ℕ) → Wear (ends c (fresh_world s size) items).journal a'
    → (r : State) → restart c (ends c (fresh_world s size) items).journal ≡ done r → NamesEarlier a' r.next.number

-- ## one worn block
-- a restart on the worn journal a' answers as on a, or is refused 5, or a header is left that names a later group than its next one
pub data Told (c : Configuration) (a a' : List ℕ) : Type 0 where
  as_before : restart c a' ≡ restart c a → Told c a a'
  damaged : (j : ℕ) → restart c a' ≡ refused (Damaged j) → Told c a a'
  named : (r : State) → restart c a' ≡ done r
      → (j : ℕ) → j < blocks a' → has_header_kind (block_at a' j) ≡ true → r.next.number < group_of (block_at a' j) → Told c a a'

-- one worn block shows, unless it is the last header. Block i is now b, whose check fails
unfoldable pub OneWornTold : Type 0
OneWornTold =
    (c : Configuration) (size : ℕ) (s : State) (items : List Item) → Fits c.settings → start c size ≡ done s
    → (end : Stop) → walk_of (ends c (fresh_world s size) items).journal ≡ done end
    → (i : ℕ) (b : List ℕ) → i < blocks (ends c (fresh_world s size) items).journal → is_torn b ≡ true → (end.last ≡ some i → ⊥)
    → Told c (ends c (fresh_world s size) items).journal (write_at (ends c (fresh_world s size) items).journal i b)
