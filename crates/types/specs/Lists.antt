-- Lists that are answered into lent memory, from its first place on. And how the records of the code
-- stand for what is listed.
-- SPEC.md, "Refusals".
use Rattle.std.specs.Prelude.{ℕ, ◌+◌, ◌≤◌, ◌≡◌, cond, List, [], ◌∷◌, ◌++◌, map, ltb, eqb, length, take, drop, replicate}
use Rattle.types.specs.Refusal.{Result, refused, done, OutTooShort}
use Rattle.types.specs.Table.{◌⇒◌, Answer, answer, checked, guarded}
use Rattle.types.specs.Keyed.{Entry, entry, entries}
use Rattle.types.specs.declared.Offset.{Offset}
use Rattle.types.specs.declared.Pair.{Pair}
use Rattle.types.specs.declared.lent.OffsetList.{OffsetList}
use Rattle.types.specs.declared.lent.AttemptCounts.{AttemptCounts}

-- the list from the first place on, its length as the outcome, later places as they were; 20 where it doesn't fit
abbrev pub listed : {A : Type 0} → List A → List A → Answer ℕ (List A)
listed list out =
    guarded (ltb (length out) (length list) ⇒ OutTooShort ∷ []) out
    (answer (done (length list)) (list ++ drop (length list) out))

-- whether so many fit into lent memory of a length
abbrev pub roomFor : ℕ → ℕ → Result ℕ
roomFor n room = checked (ltb room n ⇒ OutTooShort ∷ []) (done n)

-- how many places an answer fills
abbrev pub counted : Result ℕ → ℕ
counted (refused r) = 0
counted (done n) = n

-- how often a number stands in a list
abbrev pub times : ℕ → List ℕ → ℕ
times x [] = 0
times x (y ∷ l) = cond (eqb x y) 1 0 + times x l

-- ## records
-- the numbers of offsets
abbrev pub numbers_of : List Offset → List ℕ
numbers_of = map (λ (o : Offset). o.0)

-- pairs, and pairs as entries
abbrev pub pair : ℕ → ℕ → Pair
pair o n = record { offset = o; attempt = n }

abbrev pub entry_of : Pair → Entry ℕ
entry_of p = entry p.offset p.attempt

abbrev pub entries_of : List Pair → List (Entry ℕ)
entries_of = map entry_of

-- the offsets that stand in an array
abbrev pub offsets_in : OffsetList → List ℕ
offsets_in r = take r.len r.offsets

-- the counts that stand in two arrays
abbrev pub counts_in : AttemptCounts → List (Entry ℕ)
counts_in r = entries (take r.len r.offsets) (take r.len r.attempts)

-- ## arrays that hold a list and are 0 behind it
pub record ListsOffsets (r : OffsetList) (right : List ℕ) : Type 0 where
  pub few : r.len ≤ 128
  pub is : offsets_in r ≡ right
  pub rest : drop r.len r.offsets ≡ drop r.len (replicate 128 0)

pub record ListsCounts (r : AttemptCounts) (right : List (Entry ℕ)) : Type 0 where
  pub few : r.len ≤ 192
  pub is : counts_in r ≡ right
  pub rest : drop r.len r.offsets ≡ drop r.len (replicate 192 0)
  pub rest-attempts : drop r.len r.attempts ≡ drop r.len (replicate 192 0)
