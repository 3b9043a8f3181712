-- A whole plan in one walk: offsets that don't fall, each answered settled (1) or open (0), and the number of looks that this
-- takes: how often an offset is compared with one of the ranges ahead.
-- SPEC.md, "Plan".
use Rattle.std.specs.Prelude.{ℕ, ◌+◌, ◌≤◌, ◌≡◌, cond, not, List, [], ◌∷◌, map, ltb, leb, eqb, length, drop}
use Rattle.types.specs.Refusal.{done, UnequalLengths, Falling}
use Rattle.types.specs.Table.{Row, ◌⇒◌, Answer, answer, guarded}
use Rattle.cursor.specs.Cursor.{Cursor, settled}
use Rattle.cursor.specs.declared.Range.{Range}
use Rattle.cursor.specs.declared.plans.Step.{Step}

-- ## the answers
abbrev pub settled_byte : Cursor → ℕ → ℕ
settled_byte c o = cond (settled c o) 1 0

abbrev pub plan_bytes : Cursor → List ℕ → List ℕ
plan_bytes c os = map (settled_byte c) os

-- ## the looks
-- An offset is compared with the range that the walk stands on, which is the first of those that are left, and steps to the next one
-- as long as it is at or past the end: with how many it is compared, and which are left from where it then stands. With no range left
-- there are no more looks.
abbrev pub compared : ℕ → List Range → ℕ
compared o [] = 0
compared o (r ∷ rs) = 1 + cond (leb r.end o) (compared o rs) 0

abbrev pub stepped_to : ℕ → List Range → List Range
stepped_to o [] = []
stepped_to o (r ∷ rs) = cond (leb r.end o) (stepped_to o rs) (r ∷ rs)

-- the same of an offset that may be below committed: comparing with committed is no look
abbrev pub looks_at : ℕ → ℕ → List Range → ℕ
looks_at committed o rs = cond (ltb o committed) 0 (compared o rs)

abbrev pub left_at : ℕ → ℕ → List Range → List Range
left_at committed o rs = cond (ltb o committed) rs (stepped_to o rs)

abbrev pub looks_from : ℕ → List Range → List ℕ → ℕ
looks_from committed rs [] = 0
looks_from committed rs (o ∷ os) = looks_at committed o rs + looks_from committed (left_at committed o rs) os

-- the walk stands on the first range
abbrev pub looks : Cursor → List ℕ → ℕ
looks c os = looks_from c.committed c.ahead os

-- ## the refusals
-- 37 for each offset below the one before it, at its place
abbrev pub fall_rows : ℕ → ℕ → List ℕ → List Row
fall_rows before place [] = []
fall_rows before place (o ∷ os) = ltb o before ⇒ Falling place ∷ fall_rows o (place + 1) os

abbrev pub pair_rows : List ℕ → List Row
pair_rows [] = []
pair_rows (o ∷ os) = fall_rows o 1 os

-- 36, then 37 for the first falling pair
abbrev pub plan_table : List ℕ → ℕ → List Row
plan_table os room = not (eqb (length os) room) ⇒ UnequalLengths ∷ pair_rows os

-- the number of looks, and the lent list
unfoldable pub plan : Cursor → List ℕ → List ℕ → Answer ℕ (List ℕ)
plan c os out = guarded (plan_table os (length out)) out (answer (done (looks c os)) (plan_bytes c os))

-- ## the walk, as the code makes it: it answers by the range that it stands on
abbrev pub starts_by : ℕ → List Range → ℕ
starts_by o [] = 0
starts_by o (r ∷ rs) = cond (leb r.start o) 1 0

abbrev pub byte_at : ℕ → ℕ → List Range → ℕ
byte_at committed o rs = cond (ltb o committed) 1 (starts_by o (stepped_to o rs))

abbrev pub bytes_from : ℕ → List Range → List ℕ → List ℕ
bytes_from committed rs [] = []
bytes_from committed rs (o ∷ os) = byte_at committed o rs ∷ bytes_from committed (left_at committed o rs) os

-- one offset: the walk stood at place `at` of the ranges, and stands at the step's then
pub record StepIs (c : Cursor) (at o : ℕ) (s : Step) : Type 0 where
  pub within : at ≤ length c.ahead → s.at ≤ length c.ahead
  pub left : drop s.at c.ahead ≡ left_at c.committed o (drop at c.ahead)
  pub looks : s.looks ≡ looks_at c.committed o (drop at c.ahead)
  pub byte : s.byte ≡ byte_at c.committed o (drop at c.ahead)
