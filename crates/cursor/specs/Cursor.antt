-- The ack cursor: the offset below which all are settled, and the ranges that are settled ahead of it; what an ack, a
-- commit and a resumption answer (cursor.rs).
-- SPEC.md, "Cursor".
use Rattle.std.specs.Prelude.{ℕ, ◌≤◌, min, Bool, true, false, cond, not, ◌&&◌, ◌||◌, List, [], ◌∷◌, ◌++◌, ltb, leb, eqb, length}
use Rattle.types.specs.Limits.{MAX, RANGES}
use Rattle.types.specs.Refusal.{Result, done, EmptyRange, NotSortedDisjointAndAboveCommitted, TooManyRuns, Shed}
use Rattle.types.specs.Table.{Row, ◌⇒◌, Answer, answer, checked, guarded}
use Rattle.cursor.specs.Ranges.{Above, inside, touches, insert}
use Rattle.cursor.specs.declared.Range.{Range}

pub record Cursor : Type 0 where
  pub committed : ℕ
  pub ahead : List Range

abbrev pub cursor : ℕ → List Range → Cursor
cursor committed ahead = record { committed = committed; ahead = ahead }

-- what holds of a cursor: at most 128 ranges, in order, above committed
pub record Valid (c : Cursor) : Type 0 where
  pub fits : c.committed ≤ MAX
  pub above : Above c.committed c.ahead
  pub few : length c.ahead ≤ RANGES

-- the offset is below committed or in a range
abbrev pub settled : Cursor → ℕ → Bool
settled c o = ltb o c.committed || inside o c.ahead

-- committed moves over the first range where that starts at it
abbrev pub advanced : ℕ → List Range → Cursor
advanced n [] = cursor n []
advanced n (r ∷ rs) = cond (eqb r.start n) (cursor r.end rs) (cursor n (r ∷ rs))

-- an offset that was not settled is
abbrev pub recorded : Cursor → ℕ → Cursor
recorded c o = advanced c.committed (insert o c.ahead)

-- the ack would make a range more, and there are as many as the limit allows
abbrev pub fragments : Cursor → ℕ → ℕ → Bool
fragments c o limit =
    leb (min limit RANGES) (length c.ahead) && not (eqb c.committed o || touches o c.ahead)

-- an ack: false for a duplicate, which MAX counts as, and true for one that is recorded; 29
unfoldable pub ackBounded : Cursor → ℕ → ℕ → Answer Bool Cursor
ackBounded c o limit =
    cond (settled c o || eqb o MAX) (answer (done false) c)
    (guarded (fragments c o limit ⇒ Shed ∷ []) c (answer (done true) (recorded c o)))

-- all offsets below the bound are settled: ranges that end by it go, and one that starts by it is swallowed
abbrev pub committed_to : ℕ → List Range → Cursor
committed_to bound [] = cursor bound []
committed_to bound (r ∷ rs) =
    cond (leb r.end bound) (committed_to bound rs)
    (cond (leb r.start bound) (cursor r.end rs) (cursor bound (r ∷ rs)))

-- a commit: false where the bound is not above committed
unfoldable pub commit_up_to : Cursor → ℕ → Answer Bool Cursor
commit_up_to c bound =
    cond (leb bound c.committed) (answer (done false) c) (answer (done true) (committed_to bound c.ahead))

-- a cursor at a committed offset, with nothing ahead
abbrev pub resume : ℕ → Cursor
resume committed = cursor committed []

-- 10 and 11 for a range behind an end; for ranges, one behind the other
abbrev pub range_table : ℕ → Range → List Row
range_table prev-end r =
    leb r.end r.start ⇒ EmptyRange r.start r.end
    ∷ leb r.start prev-end ⇒ NotSortedDisjointAndAboveCommitted r.start prev-end
    ∷ []

abbrev pub ranges_table : ℕ → List Range → List Row
ranges_table prev-end [] = []
ranges_table prev-end (r ∷ rs) = range_table prev-end r ++ ranges_table r.end rs

-- 10 and 11 range by range, then 12
abbrev pub resume_table : ℕ → List Range → List Row
resume_table committed ahead = ranges_table committed ahead ++ ltb RANGES (length ahead) ⇒ TooManyRuns ∷ []

-- a cursor with ranges ahead of a committed offset
unfoldable pub resume_with_ahead : ℕ → List Range → Result Cursor
resume_with_ahead committed ahead = checked (resume_table committed ahead) (done (cursor committed ahead))
