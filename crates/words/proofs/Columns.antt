-- What a store, and a stretch that was lent and comes back, make of the numbers and columns of a list of words: of the one that
-- they lie in, and of every other.
-- Assumes nothing.
use Prim.Native.Nat.{ℕ, ◌+◌, ◌-◌, ◌≤◌, ◌<◌}
use native.Mathlib.Omega.{arith}
use mathlib.Core.Path.{◌≡◌, refl, sym, ap, ◌∙◌}
use mathlib.Core.Bool.{true}
use mathlib.Core.List.{List, ◌++◌, append_assoc}
use lib.Dec.{leb}
use lib.ListN.{length, take, drop, get_or, set, length-append, length-take, length-drop, take-append-drop}
use lib.Seq.{drop-set-lt, drop-set-add, take-set-le, take-set-lt, get_or-take, get_or-drop, drop-drop, drop-append-add, drop-append-le, take-append-le, take_at, drop_at, length-take-le}
use borrow.Author.Tests.{leb-true}
use borrow.Rule.Slice.PartMut.{put_mid}
use Rattle.types.proofs.Cases.{split}
use Rattle.words.specs.Columns.{word, column, spliced, apart}

-- ## as a proof of code meets them
pub column-is : (from n : ℕ) (w : List ℕ) → take n (drop from w) ≡ column from n w
unfolding column
column-is from n w = refl

pub spliced-is : (from n : ℕ) (w c : List ℕ) → put_mid from n w c ≡ spliced from n c w
unfolding spliced
spliced-is from n w c = refl

-- ## reading
pub column-length : (from n : ℕ) (w : List ℕ) → from + n ≤ length w → length (column from n w) ≡ n
unfolding column
column-length from n w h = simp (length-take, length-drop) (omega arith)

pub column-at : (from n : ℕ) (w : List ℕ) (i : ℕ) → i < n → get_or (column from n w) i 0 ≡ get_or w (from + i) 0
unfolding column
column-at from n w i h = get_or-take n (drop from w) i 0 h ∙ get_or-drop from w i 0

-- ## a store in a column
pub column-stored : (from n : ℕ) (w : List ℕ) (i v : ℕ) → i < n → column from n (set w (from + i) v) ≡ set (column from n w) i v
unfolding column
column-stored from n w i v h = ap (take n) (drop-set-add from w i v) ∙ take-set-lt n (drop from w) i v h

module _ (a n b m : ℕ) (h : apart a n b m ≡ true) where
  on-one_side : {A : Type 0} → (a + n ≤ b → A) → (b + m ≤ a → A) → A
  on-one_side f g = split (leb (a + n) b) (λ q. f (leb-true (a + n) b q)) (λ q. g (leb-true (b + m) a (rw q at h)))

  pub column-kept : (w : List ℕ) (i v : ℕ) → i < n → column b m (set w (a + i) v) ≡ column b m w
  unfolding column
  column-kept w i v k =
      on-one_side
      (λ q. ap (take m) (drop-set-lt b w (a + i) v (omega arith)))
      (λ q. let e : a + i ≡ b + (a + i - b) = omega arith in
      ap (λ (j : ℕ). take m (drop b (set w j v))) e ∙ ap (take m) (drop-set-add b w (a + i - b) v) ∙ take-set-le m (drop b w) (a + i - b) v (omega arith))

  -- a stretch that comes back beside the column
  pub column-beside : (w c : List ℕ) → a + n ≤ length w → length c ≡ n → column b m (spliced a n c w) ≡ column b m w
  unfolding column spliced
  column-beside w c l e =
      let front : length (take a w) ≡ a = length-take-le a w (omega arith) in
      on-one_side
      (λ q. let k = b - (a + n) in
      let long : length (take a w ++ c) ≡ a + n = simp length-append (omega arith) in
      let is : b ≡ length (take a w ++ c) + k = omega arith in
      let back : n + k ≡ b - a = omega arith in
      let all : a + (b - a) ≡ b = omega arith in
      ap (take m)
      (ap (drop b) (sym (append_assoc (take a w) c (drop n (drop a w))))
      ∙ ap (λ (j : ℕ). drop j ((take a w ++ c) ++ drop n (drop a w))) is
      ∙ drop-append-add (take a w ++ c) (drop n (drop a w)) k
      ∙ drop-drop k n (drop a w)
      ∙ ap (λ (j : ℕ). drop j (drop a w)) back
      ∙ drop-drop (b - a) a w
      ∙ ap (λ (j : ℕ). drop j w) all))
      (λ q. let room : m ≤ length (drop b (take a w)) = simp length-drop (omega arith) in
      let inside : b ≤ length (take a w) = omega arith in
      ap (take m) (drop-append-le b (take a w) (c ++ drop n (drop a w)) inside)
      ∙ take-append-le m (drop b (take a w)) (c ++ drop n (drop a w)) room
      ∙ sym (take-append-le m (drop b (take a w)) (drop a w) room)
      ∙ ap (take m) (sym (drop-append-le b (take a w) (drop a w) inside))
      ∙ ap (λ (l : List ℕ). take m (drop b l)) (take-append-drop a w))

module _ (a n : ℕ) (w c : List ℕ) (l : a + n ≤ length w) (e : length c ≡ n) where
  pub column-spliced : column a n (spliced a n c w) ≡ c
  unfolding column spliced
  column-spliced =
      ap (take n) (drop_at (take a w) (c ++ drop n (drop a w)) a (length-take-le a w (omega arith))) ∙ take_at c (drop n (drop a w)) n e

  pub spliced-length : length (spliced a n c w) ≡ length w
  unfolding spliced
  spliced-length = simp (length-append, length-take, length-drop) (omega arith)

-- ## a number by itself, which is a column of one
one_word : (j : ℕ) (w : List ℕ) → word j w ≡ get_or (column j 1 w) 0 0
one_word j w = let z : j + 0 ≡ j = omega arith in sym (column-at j 1 w 0 (omega arith) ∙ ap (λ (i : ℕ). get_or w i 0) z)

module _ (a n j : ℕ) (h : apart a n j 1 ≡ true) where
  pub word_kept : (w : List ℕ) (i v : ℕ) → i < n → word j (set w (a + i) v) ≡ word j w
  word_kept w i v k = one_word j (set w (a + i) v) ∙ ap (λ (c : List ℕ). get_or c 0 0) (column-kept a n j 1 h w i v k) ∙ sym (one_word j w)

  pub word-beside : (w c : List ℕ) → a + n ≤ length w → length c ≡ n → word j (spliced a n c w) ≡ word j w
  word-beside w c l e = one_word j (spliced a n c w) ∙ ap (λ (c : List ℕ). get_or c 0 0) (column-beside a n j 1 h w c l e) ∙ sym (one_word j w)

-- ## a store at a number's place
pub number-kept : (j b m : ℕ) → apart j 1 b m ≡ true → (w : List ℕ) (v : ℕ) → column b m (set w j v) ≡ column b m w
number-kept j b m h w v = let z : j + 0 ≡ j = omega arith in ap (λ (i : ℕ). column b m (set w i v)) (sym z) ∙ column-kept j 1 b m h w 0 v (omega arith)

pub other-kept : (j k : ℕ) → apart j 1 k 1 ≡ true → (w : List ℕ) (v : ℕ) → word k (set w j v) ≡ word k w
other-kept j k h w v = let z : j + 0 ≡ j = omega arith in ap (λ (i : ℕ). word k (set w i v)) (sym z) ∙ word_kept j 1 k h w 0 v (omega arith)
