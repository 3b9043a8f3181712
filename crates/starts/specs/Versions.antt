-- Journals that differ in the versions in which the attempt counts of their groups are written, of the last group alone or of whichever
-- groups: what a restart finds doesn't depend on it.
-- SPEC.md, "Attempt snapshot".
use Rattle.std.specs.Prelude.{ℕ, suc, ◌+◌, ◌^◌, ◌≤◌, ◌<◌, ◌≡◌, true, List, ◌++◌, length}
use Rattle.std.proofs.Math.Option.{some}
use Rattle.types.specs.Limits.{PAIRS}
use Rattle.types.specs.Keyed.{Entry}
use Rattle.attempt.specs.Snapshot.{PairsFit, known, encode_attempts}
use Rattle.journal.specs.Area.{block_at, Same}
use Rattle.journal.specs.Blocks.{bodies_for, chunk_of, header_block, body_block}
use Rattle.journal.specs.Walks.{stop}
use Rattle.starts.specs.Restart.{walk_of}

-- a group: its number, the block of its header, the ceiling, the cursor's snapshot, and the attempt counts, in any order
pub record Source : Type 0 where
  pub number : ℕ
  pub place : ℕ
  pub ceiling : ℕ
  pub cursor : List ℕ
  pub counts : List (Entry ℕ)

-- within their measures
pub record Measured (g : Source) : Type 0 where
  pub number_fits : g.number < 256 ^ 4
  pub cursor-low : 13 ≤ length g.cursor
  pub cursor_high : length g.cursor ≤ 2061
  pub counts-fit : PairsFit g.counts
  pub few : length g.counts ≤ PAIRS

-- its attempt snapshot in a version, its payload with that, and the bodies that this takes
abbrev pub attempts_in : ℕ → Source → List ℕ
attempts_in version g = encode_attempts version g.counts

abbrev pub payload_in : ℕ → Source → List ℕ
payload_in version g = g.cursor ++ attempts_in version g

abbrev pub bodies_in : ℕ → Source → ℕ
bodies_in version g = bodies_for (length (payload_in version g))

-- and the block behind its bodies
abbrev pub behind_in : ℕ → Source → ℕ
behind_in version g = g.place + suc (bodies_for (length (payload_in version g)))

-- the group stands in a journal as a checkpoint writes it, but in that version
pub record Stands (a : List ℕ) (version : ℕ) (g : Source) : Type 0 where
  pub header : block_at a g.place ≡ header_block g.number g.ceiling (length g.cursor) (length (attempts_in version g))
  pub bodies : (j : ℕ) → j < bodies_in version g
      → block_at a (g.place + suc j) ≡ body_block g.number (suc j) (chunk_of (suc j) (payload_in version g))

-- it is the last group of a journal, in version v, and the other journal has it in version w and is the same in all else
pub record OtherVersion (a a' : List ℕ) (v w : ℕ) (g : Source) : Type 0 where
  pub size : length a' ≡ length a
  pub last : walk_of a ≡ stop (some g.place) (suc g.number) (behind_in v g)
  pub one : Stands a v g
  pub other : Stands a' w g
  pub before : Same a a' 0 g.place
  pub after : (j : ℕ) → behind_in v g ≤ j → block_at a' j ≡ block_at a j

-- ## any groups
-- a group stands in two journals, in a version in each, 1 or 2
pub record InBoth (a a' : List ℕ) : Type 0 where
  pub group : Source
  pub measured : Measured group
  pub one : ℕ
  pub one_known : known one ≡ true
  pub stands : Stands a one group
  pub other : ℕ
  pub other-known : known other ≡ true
  pub stands_too : Stands a' other group

-- a block is the same in both journals, or a body of such a group
pub data SameButVersion (a a' : List ℕ) (i : ℕ) : Type 0 where
  same : block_at a' i ≡ block_at a i → SameButVersion a a' i
  body : (b : InBoth a a') (j : ℕ) → j < bodies_in b.one b.group → i ≡ b.group.place + suc j → SameButVersion a a' i

-- every block, so that any set of the groups may be in another version, on a restart's walk or not
pub record OtherVersions (a a' : List ℕ) : Type 0 where
  pub size : length a' ≡ length a
  pub blocks : (i : ℕ) → SameButVersion a a' i
