-- What putting a place in and taking places out make of a column of which the first n places are in use.
-- SPEC.md, "Forms".
use Rattle.std.specs.Prelude.{ℕ, ◌+◌, ◌-◌, cond, ◌&&◌, List, ◌++◌, leb, ltb, length, take, drop}
use Rattle.types.specs.Zipped.{inserted, removed}

module _ {A : Type 0} where
  -- a put in at a place, what stood from there on one place further; as it was where there is no such place or no room
  abbrev pub put_in : ℕ → ℕ → A → List A → List A
  put_in n at a l = cond (leb at n && ltb n (length l)) (inserted at a (take n l) ++ drop (n + 1) l) l

  -- the places from `from` up to `to` taken out, those that fall free as they were; as it was where these are no places in use
  abbrev pub takenOut : ℕ → ℕ → ℕ → List A → List A
  takenOut n from to l = cond (leb from to && leb to n && leb n (length l)) (removed from to (take n l) ++ drop (n - (to - from)) l) l
