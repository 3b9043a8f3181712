-- Bytes that end before a number does: with zeros behind them they are the number that is read there. Assumes nothing.
use Prim.Native.Nat.{ℕ, zero, suc, ◌+◌, ◌-◌, ◌≤◌, ◌<◌, min}
use native.Mathlib.Omega.{arith}
use mathlib.Core.Path.{◌≡◌, refl, ap, ◌∙◌}
use mathlib.Core.List.{List, [], ◌∷◌, ◌++◌}
use lib.Dec.{ltb, eqb}
use lib.ListN.{length, take, drop, get_or, set, length-drop, drop_of_length-le}
use lib.Seq.{take_all, take-nil}
use borrow.Author.Tests.{ltb-true, ltb-false, eqb-true, eqb-false}
use Rattle.std.proofs.lemmas.List.{get_or-set_same, get_or-set_other}
use Rattle.types.proofs.Cases.{split}
use Rattle.raw.specs.Bytes.{unle, number_at}

-- bytes that are those of a list as far as i, and that at i
pub one-more : (bs l : List ℕ) (i x : ℕ) → i < length bs → x ≡ get_or l i 0 → ((k : ℕ) → k < i → get_or bs k 0 ≡ get_or l k 0)
    → (k : ℕ) → k < i + 1 → get_or (set bs i x) k 0 ≡ get_or l k 0
one-more bs l i x within at before k h =
    split (eqb k i)
    (λ t. rw (eqb-true k i t, get_or-set_same bs i x 0 within) at)
    (λ t. get_or-set_other bs i k x 0 (eqb-false k i t) ∙ before k (omega (arith, eqb-false k i t)))

-- no byte but zeros is 0
none-but-zeros : (k : ℕ) (there : List ℕ) → length there ≡ k → ((i : ℕ) → i < k → get_or there i 0 ≡ 0) → unle there ≡ 0
none-but-zeros zero [] size each = refl
none-but-zeros zero (b ∷ bs) size each = absurd (omega arith)
none-but-zeros (suc k) [] size each = absurd (omega arith)
none-but-zeros (suc k) (b ∷ bs) size each =
    omega (arith, each 0 (omega arith), none-but-zeros k bs (omega arith) (λ i h. each (suc i) (omega arith)))

first-of : (k : ℕ) (there l : List ℕ) → length there ≡ k → ((i : ℕ) → i < k → get_or there i 0 ≡ get_or l i 0) → unle there ≡ unle (take k l)
first-of zero [] l size each = refl
first-of zero (b ∷ bs) l size each = absurd (omega arith)
first-of (suc k) [] l size each = absurd (omega arith)
first-of (suc k) (b ∷ bs) [] size each = none-but-zeros (suc k) (b ∷ bs) size each
first-of (suc k) (b ∷ bs) (x ∷ xs) size each =
    omega (arith, each 0 (omega arith), first-of k bs xs (omega arith) (λ i h. each (suc i) (omega arith)))

module _ (pos : ℕ) (bs : List ℕ) where
  -- what is there from a place on
  rest : take (length bs - min pos (length bs)) (drop (min pos (length bs)) bs) ≡ drop pos bs
  rest =
      split (ltb (length bs) pos)
      (λ t.
      let past : length bs < pos = ltb-true (length bs) pos t in
      let m : min pos (length bs) ≡ length bs = omega arith in
      rw (m, drop_of_length-le bs {i = length bs} (omega arith), drop_of_length-le bs {i = pos} (omega arith), take-nil))
      (λ t.
      let within : pos ≤ length bs = ltb-false (length bs) pos t in
      let m : min pos (length bs) ≡ pos = omega arith in
      let all : length (drop pos bs) ≤ length bs - pos = simp length-drop (omega arith) in
      rw (m, take_all (length bs - pos) (drop pos bs) all))

  -- k bytes that are the first of them, as far as there are any, and zeros behind
  pub padded : (k m : ℕ) (there : List ℕ) → m ≡ min pos (length bs) → length there ≡ k
      → ((i : ℕ) → i < k → get_or there i 0 ≡ get_or (take (length bs - m) (drop m bs)) i 0) → unle there ≡ number_at k pos bs
  padded k m there e size each =
      let is : take (length bs - m) (drop m bs) ≡ drop pos bs = rw e rest in
      first-of k there (drop pos bs) size (λ i h. rw is at each i h)
