-- What a step takes of the area that it is lent: its length, and no byte. So a server may lend it other bytes of that length, and write
-- to the journal the one block that it finds there afterwards.
-- SPEC.md, "Checkpoint".
use Rattle.std.specs.Prelude.{ℕ, ◌≡◌, List, length}
use Rattle.types.specs.Refusal.{Result, refused, done}
use Rattle.journal.specs.Area.{block_at, write_at}
use Rattle.checkpoint.specs.Checkpoint.{Writing, BlockWritten, step}
use Rattle.checkpoint.specs.Valid.{ValidWriting}

-- a journal with the block that a step left in scratch memory; a step that was refused wrote none
unfoldable pub written_from : List ℕ → Result BlockWritten → List ℕ → List ℕ
written_from scratch (refused r) journal = journal
written_from scratch (done b) journal = write_at journal b.block (block_at scratch b.block)

-- a step on scratch memory answers and leaves what the step on the journal does, and its block makes of the journal what that one makes of it
pub record AsOnJournal (w : Writing) (journal scratch : List ℕ) : Type 0 where
  pub outcome : (step w scratch).outcome ≡ (step w journal).outcome
  pub left : (step w scratch).state.left ≡ (step w journal).state.left
  pub area : written_from (step w scratch).state.area (step w scratch).outcome journal ≡ (step w journal).state.area

-- a step depends on no byte of the area that it is lent, only on its length
unfoldable pub LengthAlone : Type 0
LengthAlone = (w : Writing) (journal scratch : List ℕ) → ValidWriting w → length scratch ≡ length journal → AsOnJournal w journal scratch
