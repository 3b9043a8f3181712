-- The headers from a block on, by kind and check alone, and the groups that they name: `inspect` asks behind the block
-- where a walk ended; the greatest group that a header or a body of an area names, by kind and check alone too; and the walk over the
-- groups in front of an unsound body.
-- SPEC.md, "Programs".
use Rattle.std.specs.Prelude.{ℕ, zero, suc, max, ◌≡◌, Bool, cond, ◌||◌, List, [], ◌∷◌, length}
use Rattle.std.specs.Prelude as std
use Rattle.std.specs.Prelude.{Err}
use Rattle.std.proofs.Math.Option.{Option, none, some}
use Rattle.types.specs.Refusal.{Result}
use Rattle.journal.specs.Area.{block_at, blocks}
use Rattle.journal.specs.Answers.{walk_in, walked_of}
use Rattle.journal.specs.Blocks.{group_of}
use Rattle.journal.specs.Sound.{has_header_kind, is_kind}
use Rattle.journal.specs.Walks.{Stop}
use Rattle.journal.specs.declared.Stop as code
use Rattle.types.specs.declared.refusals.Refusal as refusals
use Rattle.types.specs.declared.refusals.Refusal.TheVariants as refusal
use Rattle.starts.specs.Restart.{origin}
use Rattle.inspect.specs.declared.missed.Headers.{Headers}

-- the first header among m blocks from block i on
unfoldable pub first_header : List ℕ → ℕ → ℕ → Option ℕ
first_header a zero i = none
first_header a (suc m) i = cond (has_header_kind (block_at a i)) (some i) (first_header a m (suc i))

-- the groups that the headers among m blocks from block i on name
unfoldable pub named : List ℕ → ℕ → ℕ → List ℕ
named a zero i = []
named a (suc m) i = cond (has_header_kind (block_at a i)) (group_of (block_at a i) ∷ named a m (suc i)) (named a m (suc i))

abbrev pub greatest : List ℕ → ℕ
greatest [] = 0
greatest (k ∷ ks) = max k (greatest ks)

-- how many headers name a group, and the greatest one
pub record HeadersAre (ks : List ℕ) (h : Headers) : Type 0 where
  pub count : h.count ≡ length ks
  pub number : h.number ≡ greatest ks

-- kind 1 or 2 and a right check: what could be taken for a header or a body
abbrev pub names_group : List ℕ → Bool
names_group b = has_header_kind b || is_kind 2 b

-- the group that such a block names, and 0 for any other
abbrev pub named_by : List ℕ → ℕ
named_by b = cond (names_group b) (group_of b) 0

-- the greatest group that one of m blocks from block i on names, 0 where none does
unfoldable pub highest_from : List ℕ → ℕ → ℕ → ℕ
highest_from a zero i = 0
highest_from a (suc m) i = max (named_by (block_at a i)) (highest_from a m (suc i))

-- and that one of all blocks names
abbrev pub highest_named : List ℕ → ℕ
highest_named a = highest_from a (blocks a) 0

-- a walk, or where it met an unsound body, the one that no group may pass into that body's block
abbrev pub in_front : List ℕ → std.Result code.Stop refusals.Refusal → Result Stop
in_front a (Err (refusal.Damaged j)) = walk_in j (origin a).number (origin a).block a
in_front a w = walked_of w
