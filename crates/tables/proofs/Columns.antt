-- The places in use of a column after one was put in or some were taken out.
-- Assumes nothing.
use Prim.Native.Nat.{ℕ, ◌+◌, ◌-◌, ◌≤◌, ◌<◌}
use native.Mathlib.Omega.{arith}
use mathlib.Core.Path.{◌≡◌, sym, ap, ◌∙◌}
use mathlib.Core.List.{List, ◌∷◌, ◌++◌, append_assoc}
use lib.ListN.{length, take, drop, get_or, length-append, length-take, length-drop}
use lib.Seq.{take-append_seam, get_or-append_seam}
use borrow.Author.Tests.{le-leb, lt-ltb}
use Rattle.types.specs.Zipped.{inserted, removed}
use Rattle.tables.specs.Columns.{put_in, takenOut}

module _ {A : Type 0} where
  front : (n : ℕ) (xs ys : List A) → length xs ≡ n → take n (xs ++ ys) ≡ xs
  front n xs ys e = ap (λ (k : ℕ). take k (xs ++ ys)) (sym e) ∙ take-append_seam xs ys

  pub put_in_lem : (n at : ℕ) (a : A) (l : List A) → at ≤ n → n < length l → put_in n at a l ≡ inserted at a (take n l) ++ drop (n + 1) l
  put_in_lem n at a l h k = rw (le-leb at n h, lt-ltb n (length l) k)

  pub put_in_front : (n at : ℕ) (a : A) (l : List A) → at ≤ n → n < length l → {l' : List A} → l' ≡ put_in n at a l → take (n + 1) l' ≡ inserted at a (take n l)
  put_in_front n at a l h k e =
      let long : length (inserted at a (take n l)) ≡ n + 1 = simp (length-append, length-take, length-drop) (omega arith) in
      ap (take (n + 1)) (e ∙ put_in_lem n at a l h k) ∙ front (n + 1) (inserted at a (take n l)) (drop (n + 1) l) long

  pub put_in_at : (n at : ℕ) (a : A) (l : List A) (d : A) → at ≤ n → n < length l → get_or (put_in n at a l) at d ≡ a
  put_in_at n at a l d h k =
      let before = take at (take n l) in
      let long : length before ≡ at = simp length-take (omega arith) in
      ap (λ (x : List A). get_or x at d) (put_in_lem n at a l h k ∙ append_assoc before (a ∷ drop at (take n l)) (drop (n + 1) l))
      ∙ ap (λ (i : ℕ). get_or (before ++ a ∷ (drop at (take n l) ++ drop (n + 1) l)) i d) (sym long)
      ∙ get_or-append_seam before a (drop at (take n l) ++ drop (n + 1) l) d

  pub taken_out : (n from to : ℕ) (l : List A) → from ≤ to → to ≤ n → n ≤ length l → takenOut n from to l ≡ removed from to (take n l) ++ drop (n - (to - from)) l
  taken_out n from to l h k m = rw (le-leb from to h, le-leb to n k, le-leb n (length l) m)

  pub taken-out-front : (n from to : ℕ) (l : List A) → from ≤ to → to ≤ n → n ≤ length l → {l' : List A} → l' ≡ takenOut n from to l
      → take (n - (to - from)) l' ≡ removed from to (take n l)
  taken-out-front n from to l h k m e =
      let long : length (removed from to (take n l)) ≡ n - (to - from) = simp (length-append, length-take, length-drop) (omega arith) in
      ap (take (n - (to - from))) (e ∙ taken_out n from to l h k m) ∙ front (n - (to - from)) (removed from to (take n l)) (drop (n - (to - from)) l) long

  pub taken-out-length : (n from to : ℕ) (l : List A) → from ≤ to → to ≤ n → n ≤ length l → {l' : List A} → l' ≡ takenOut n from to l → length l' ≡ length l
  taken-out-length n from to l h k m e = ap length (e ∙ taken_out n from to l h k m) ∙ simp (length-append, length-take, length-drop) (omega arith)
