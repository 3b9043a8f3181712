-- A gap opened in a column and one closed: what the places moved within the column, and the one stored, make of it.
-- Assumes nothing.
use Prim.Native.Nat.{ℕ, ◌+◌, ◌-◌, ◌≤◌, ◌<◌}
use native.Mathlib.Omega.{arith}
use native.Mathlib.Numerals.{add-one}
use mathlib.Core.Path.{◌≡◌, sym, ap, ◌∙◌}
use mathlib.Core.List.{List, [], ◌∷◌, ◌++◌, append_assoc}
use lib.ListN.{length, take, drop, get_or, set}
use lib.Seq.{paste, paste-zero, take-take, take-suc, set_at, length-take-le}
use Rattle.std.proofs.lemmas.Slice.{between_is}
use Rattle.tables.specs.Columns.{put_in, takenOut}
use Rattle.tables.proofs.Columns.{put_in_lem, taken_out}

module _ {A : Type 0} (l : List A) where
  pub gap_opened : (n at : ℕ) (x : A) → at ≤ n → n < length l → set (paste l (at + 1) (drop at l) (n - at)) at x ≡ put_in n at x l
  gap_opened n at x h k =
      let p : List A = take at l in
      let y : A = get_or l at x in
      let m : List A = drop at (take n l) in
      let r : List A = drop (n + 1) l in
      let front : take (at + 1) l ≡ p ++ y ∷ [] = rw add-one (take-suc l at x (omega arith)) in
      let end : at + 1 + (n - at) ≡ n + 1 = omega arith in
      let moved : paste l (at + 1) (drop at l) (n - at) ≡ p ++ y ∷ (m ++ r) = rw (front, end, ← between_is l at n, append_assoc, append_assoc) in
      let stored : set (p ++ y ∷ (m ++ r)) at x ≡ p ++ x ∷ (m ++ r) = set_at p y (m ++ r) x at (length-take-le at l (omega arith)) in
      let there : put_in n at x l ≡ p ++ x ∷ (m ++ r) = put_in_lem n at x l h k ∙ rw (take-take at n l h, append_assoc p (x ∷ m) r) in
      ap (λ (t : List A). set t at x) moved ∙ stored ∙ sym there

  -- at the end there is nothing to move
  pub gap_at_end : (n at : ℕ) (x : A) → at ≤ n → n ≤ at → n < length l → set l at x ≡ put_in n at x l
  gap_at_end n at x h e k =
      let none : 0 ≡ n - at = omega arith in
      ap (λ (t : List A). set t at x) (paste-zero l (at + 1) (drop at l) ∙ ap (paste l (at + 1) (drop at l)) none) ∙ gap_opened n at x h k

  pub gap_closed : (n from to : ℕ) → from < to → to ≤ n → n ≤ length l → paste l from (drop to l) (n - to) ≡ takenOut n from to l
  gap_closed n from to h k m =
      let end : from + (n - to) ≡ n - (to - from) = omega arith in
      rw (end, between_is l to n) (ap (λ (t : List A). t ++ drop to (take n l) ++ drop (n - (to - from)) l) (sym (take-take from n l (omega arith)))) ∙ sym (taken_out n from to l (omega arith) k m)
