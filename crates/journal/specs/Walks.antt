-- The walk over a journal, which ends at the first block that is no sound header, with its first
-- block, its first group number and the block where it must end; the search for a header behind that place; and the
-- payload of a group.
-- SPEC.md, "Walk".
use Rattle.std.specs.Prelude.{ℕ, zero, suc, ◌+◌, ◌-◌, Bool, false, cond, ◌||◌, List, [], ◌++◌, take}
use Rattle.std.proofs.Math.Option.{Option, none, some}
use Rattle.types.specs.Refusal.{Result, refused, done, Damaged}
use Rattle.journal.specs.Area.{block_at}
use Rattle.journal.specs.Blocks.{bodies_for, used_in, body_count, payload_length, content_of}
use Rattle.journal.specs.Sound.{has_header_kind, sound_header, sound_body}

-- the first unsound one of m bodies from index j on, of the group k whose header, at block i, counts n bodies with t
-- bytes
abbrev pub first_unsound : List ℕ → ℕ → ℕ → ℕ → ℕ → ℕ → ℕ → Option ℕ
first_unsound a k i n t zero j = none
first_unsound a k i n t (suc m) j =
    cond (sound_body k j (used_in j n t) (block_at a (i + j))) (first_unsound a k i n t m (suc j)) (some (i + j))

-- what stands at a block where a group is expected: no sound header; one that counts an unsound body, the first in
-- this block; a sound group, and the block behind it
pub data Found : Type 0 where
  nothing : Found
  unsound : ℕ → Found
  group : ℕ → Found

abbrev pub or_unsound : Option ℕ → ℕ → Found
or_unsound none behind = group behind
or_unsound (some j) behind = unsound j

-- the bodies that the block i counts, as the header of group k
abbrev pub bodies_at : List ℕ → ℕ → ℕ → Found
bodies_at a k i =
    or_unsound
    (first_unsound a k i (body_count (block_at a i)) (payload_length (block_at a i)) (body_count (block_at a i)) 1)
    (i + suc (body_count (block_at a i)))

unfoldable pub group_at : List ℕ → ℕ → ℕ → ℕ → Found
group_at a hi k i = cond (sound_header hi k i (block_at a i)) (bodies_at a k i) nothing

-- where a walk ended: the header block of the last group, the number expected next, and the block where it would
-- stand
pub record Stop : Type 0 where
  pub last : Option ℕ
  pub number : ℕ
  pub block : ℕ

-- a walk answers where it ended, or 5 with the first unsound body
abbrev pub stop : Option ℕ → ℕ → ℕ → Result Stop
stop last k i = done (record { last = last; number = k; block = i })

abbrev pub damaged : ℕ → Result Stop
damaged j = refused (Damaged j)

-- the walk ends where nothing is found, and goes on behind a sound group
abbrev pub after : Found → Result Stop → (ℕ → Result Stop) → Result Stop
after nothing here on = here
after (unsound j) here on = damaged j
after (group e) here on = on e

-- at most m groups, from block i on, where group k is expected; `last` is the header block of the group before
unfoldable pub walk_over : ℕ → List ℕ → ℕ → Option ℕ → ℕ → ℕ → Result Stop
walk_over zero a hi last k i = stop last k i
walk_over (suc m) a hi last k i = after (group_at a hi k i) (stop last k i) (λ e. walk_over m a hi (some i) (suc k) e)

-- the walk behind a group; there are less than hi groups below block hi
unfoldable pub walk_from : List ℕ → ℕ → Option ℕ → ℕ → ℕ → Result Stop
walk_from a hi last k i = walk_over hi a hi last k i

-- the walk from block i on, where group k is expected first; no group may pass block hi
abbrev pub walk : List ℕ → ℕ → ℕ → ℕ → Result Stop
walk a hi k i = walk_from a hi none k i

-- one of m blocks from block i on has kind 1 and a right check
abbrev pub any_header : List ℕ → ℕ → ℕ → Bool
any_header a zero i = false
any_header a (suc m) i = has_header_kind (block_at a i) || any_header a m (suc i)

-- a block behind block i, and before block hi, has kind 1 and a right check
unfoldable pub header_behind : List ℕ → ℕ → ℕ → Bool
header_behind a hi i = any_header a (hi - suc i) (suc i)

-- the content of m bodies from block i on
abbrev pub contents : List ℕ → ℕ → ℕ → List ℕ
contents a zero i = []
contents a (suc m) i = content_of (block_at a i) ++ contents a m (suc i)

-- the payload of the group whose header stands at block i: the cursor snapshot, then the attempt snapshot
unfoldable pub payload : List ℕ → ℕ → List ℕ
payload a i =
    take (payload_length (block_at a i)) (contents a (bodies_for (payload_length (block_at a i))) (suc i))
