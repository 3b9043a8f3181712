-- Laws of words and numbers: what a scan for a byte finds, how a line goes on behind a word, how a number grows by a digit, and
-- what gathering numbers keeps from turn to turn. Assumes nothing.
use Prim.Native.Nat.{ℕ, suc, ◌+◌, ◌-◌, ◌*◌, ◌<◌, ◌≤◌}
use native.Mathlib.Omega.{arith}
use native.Mathlib.Numerals.{add-one}
use mathlib.Core.Path.{◌≡◌, refl, sym, ap, ◌∙◌}
use mathlib.Core.Bool.{true, false, cond, ◌&&◌}
use mathlib.Core.List.{List, [], ◌∷◌}
use mathlib.Core.Option.{Option, none, some, none-ne-some}
use lib.Dec.{leb, eqb}
use lib.ListN.{length, take, drop, get_or, set, length-set, drop_of_length-le}
use lib.Seq.{sets, drop-cons, drop-drop}
use borrow.Author.Tests.{eq-eqb, ne_eqb, le-leb, lt-leb, leb-true, leb-false}
use Rattle.types.specs.Limits.{MAX}
use Rattle.types.proofs.Cases.{split}
use Rattle.text.specs.Words.{same_bytes, parts, behind_first, later_parts, length_to, first_part, isDigit, all_digits, value_from, value, is_number, number, with_digit, all_numbers, leading, Gathered}
use Rattle.std.specs.Prelude as std

-- ## one place on
module _ (bs : List ℕ) (i : ℕ) (inside : i < length bs) where
  pub drop-next : drop i bs ≡ get_or bs i 0 ∷ drop (i + 1) bs
  drop-next = rw (add-one, drop-cons bs i 0)

  pub to-here : (c : ℕ) → get_or bs i 0 ≡ c → length_to c (drop i bs) ≡ 0
  unfolding length_to
  to-here c e = rw (drop-next, eq-eqb (get_or bs i 0) c e)

  pub to-next : (c : ℕ) → (get_or bs i 0 ≡ c → ⊥) → length_to c (drop i bs) ≡ suc (length_to c (drop (i + 1) bs))
  unfolding length_to
  to-next c e = rw (drop-next, ne_eqb (get_or bs i 0) c e)

pub to_end : (c : ℕ) (bs : List ℕ) (i : ℕ) → length bs ≤ i → length_to c (drop i bs) ≡ 0
unfolding length_to
to_end c bs i h = rw (drop_of_length-le bs h)

-- behind the bytes in front of the first c, there are none
pub to-there : (c : ℕ) (bs : List ℕ) → length_to c (drop (length_to c bs) bs) ≡ 0
unfolding length_to
to-there c [] = refl
to-there c (b ∷ bs) = split (eqb b c) (λ t. rw (t, t)) (λ f. rw f (to-there c bs))

pub to-there-from : (c : ℕ) (bs : List ℕ) (from to : ℕ) → to ≡ from + length_to c (drop from bs) → length_to c (drop to bs) ≡ 0
to-there-from c bs from to e = rw (e, ← drop-drop (length_to c (drop from bs)) from bs) (to-there c (drop from bs))

-- ## the same word
module _ (a b : List ℕ) (i : ℕ) where
  module _ (ha : i < length a) (hb : i < length b) where
    pub same_next : get_or a i 0 ≡ get_or b i 0 → same_bytes (drop i a) (drop i b) ≡ same_bytes (drop (i + 1) a) (drop (i + 1) b)
    same_next e = rw (drop-next a i ha, drop-next b i hb, eq-eqb (get_or a i 0) (get_or b i 0) e)

    pub same_not : (get_or a i 0 ≡ get_or b i 0 → ⊥) → same_bytes (drop i a) (drop i b) ≡ false
    same_not e = rw (drop-next a i ha, drop-next b i hb, ne_eqb (get_or a i 0) (get_or b i 0) e)

  pub same_end : length a ≤ i → length b ≤ i → same_bytes (drop i a) (drop i b) ≡ true
  same_end ha hb = rw (drop_of_length-le a ha, drop_of_length-le b hb)

pub same_length : (a b : List ℕ) → (length a ≡ length b → ⊥) → same_bytes a b ≡ false
same_length [] [] n = absurd (n refl)
same_length [] (d ∷ ds) n = refl
same_length (c ∷ cs) [] n = refl
same_length (c ∷ cs) (d ∷ ds) n =
    split (eqb c d) (λ t. rw t (same_length cs ds (λ e. n (ap suc e)))) (λ f. rw f)

-- ## numbers
-- the number of a word whose first digits made n
abbrev pub number_from : ℕ → List ℕ → Option ℕ
number_from n w = cond (all_digits w && leb (value_from n w) MAX) (some (value_from n w)) none

value_grows : (w : List ℕ) (n : ℕ) → n ≤ value_from n w
unfolding value_from
value_grows [] n = omega arith
value_grows (c ∷ cs) n = omega (arith, value_grows cs (n * 10 + (c - 48)))

module _ (n c : ℕ) where
  pub digit_low : c < 48 → with_digit n c ≡ none
  digit_low h = rw (lt-leb 48 c h)

  pub digit_high : 57 < c → with_digit n c ≡ none
  digit_high h = rw (le-leb 48 c (omega arith), lt-leb c 57 h)

  module _ (low : 48 ≤ c) (high : c ≤ 57) where
    pub digit-over : MAX < n * 10 + (c - 48) → with_digit n c ≡ none
    digit-over h = rw (le-leb 48 c low, le-leb c 57 high, lt-leb (n * 10 + (c - 48)) MAX h)

    pub digit-more : n * 10 + (c - 48) ≤ MAX → with_digit n c ≡ some (n * 10 + (c - 48))
    digit-more h = rw (le-leb 48 c low, le-leb c 57 high, le-leb (n * 10 + (c - 48)) MAX h)

module _ (n c : ℕ) (cs : List ℕ) where
  pub number_more : (m : ℕ) → with_digit n c ≡ some m → (m ≤ MAX) × (number_from n (c ∷ cs) ≡ number_from m cs)
  unfolding all_digits value_from
  number_more m e =
      split (isDigit c)
      (λ d.
      split (leb (n * 10 + (c - 48)) MAX)
      (λ t.
      let same : n * 10 + (c - 48) ≡ m = let s : ◌≡◌ {A = Option ℕ} (some (n * 10 + (c - 48))) (some m) = rw (d, t) at e in cc in
      (omega (arith, leb-true (n * 10 + (c - 48)) MAX t), rw (d, same)))
      (λ f. absurd (none-ne-some m (rw (d, f) at e))))
      (λ f. absurd (none-ne-some m (rw f at e)))

  pub number_none : with_digit n c ≡ none → number_from n (c ∷ cs) ≡ none
  unfolding all_digits value_from
  number_none e =
      split (isDigit c)
      (λ d.
      split (leb (n * 10 + (c - 48)) MAX)
      (λ t. absurd (none-ne-some (n * 10 + (c - 48)) (sym (rw (d, t) at e))))
      (λ f.
      let over : leb (value_from (n * 10 + (c - 48)) cs) MAX ≡ false =
      lt-leb (value_from (n * 10 + (c - 48)) cs) MAX (omega (arith, value_grows cs (n * 10 + (c - 48)), leb-false (n * 10 + (c - 48)) MAX f)) in
      split (all_digits cs) (λ a. rw (d, a, over)) (λ a. rw (d, a))))
      (λ f. rw f)

pub number-all : (n : ℕ) → n ≤ MAX → number_from n [] ≡ some n
unfolding all_digits value_from
number-all n h = rw (le-leb n MAX h)

pub number-begun : (w : List ℕ) → 0 < length w → number w ≡ number_from 0 w
number-begun [] h = absurd (omega arith)
number-begun (c ∷ cs) h = refl

pub number-empty : (w : List ℕ) → length w ≡ 0 → number w ≡ none
number-empty [] h = refl
number-empty (c ∷ cs) h = absurd (omega arith)

-- what the answer says of the word
pub is-number : (w : List ℕ) (n : ℕ) → number w ≡ some n → (is_number w ≡ true) × (value w ≡ n)
is-number w n e =
    split (is_number w)
    (λ t. (t, let s : ◌≡◌ {A = Option ℕ} (some (value w)) (some n) = rw t at e in cc))
    (λ f. absurd (none-ne-some n (rw f at e)))

pub is_none : (w : List ℕ) → number w ≡ none → is_number w ≡ false
is_none w e =
    split (is_number w) (λ t. absurd (none-ne-some (value w) (sym (rw t at e)))) (λ f. f)

-- ## the parts of a text, between the bytes that are c
module _ (c : ℕ) where
  pub parts_first : (bs : List ℕ) → parts c bs ≡ first_part c bs ∷ later_parts c (drop (length_to c bs) bs)
  unfolding parts length_to
  parts_first [] = refl
  parts_first (b ∷ bs) =
      split (eqb b c) (λ t. rw (t, t)) (λ f. rw (f, parts_first bs))

  pub later-past : (bs : List ℕ) → later_parts c bs ≡ later_parts c (drop (length_to c bs) bs)
  later-past bs = ap behind_first (parts_first bs)

  module _ (bs : List ℕ) (from to : ℕ) (e : to ≡ from + length_to c (drop from bs)) where
    pub later-from : later_parts c (drop from bs) ≡ later_parts c (drop to bs)
    later-from = later-past (drop from bs) ∙ rw (e, ← drop-drop (length_to c (drop from bs)) from bs)

    pub first-from : first_part c (drop from bs) ≡ take (to - from) (drop from bs)
    first-from = let n : to - from ≡ length_to c (drop from bs) = omega arith in rw n

    pub parts_from : parts c (drop from bs) ≡ take (to - from) (drop from bs) ∷ later_parts c (drop to bs)
    parts_from =
        let n : to - from ≡ length_to c (drop from bs) = omega arith in
        parts_first (drop from bs) ∙ rw (n, e, ← drop-drop (length_to c (drop from bs)) from bs)

  pub later-end : (bs : List ℕ) (at : ℕ) → length bs ≤ at → later_parts c (drop at bs) ≡ []
  unfolding parts
  later-end bs at h = rw (drop_of_length-le bs h)

  later-here : (bs : List ℕ) (at : ℕ) → at < length bs → length_to c (drop at bs) ≡ 0
      → later_parts c (drop at bs) ≡ parts c (drop (at + 1) bs)
  unfolding parts length_to
  later-here bs at h e =
      split (eqb (get_or bs at 0) c)
      (λ t. rw (drop-next bs at h, t))
      (λ f. absurd (let z : ◌≡◌ {A = ℕ} (suc (length_to c (drop (at + 1) bs))) 0 = rw (drop-next bs at h, f) at e in omega arith))

  -- at a c: the part behind it, and the parts behind that
  pub later-next : (bs : List ℕ) (at to : ℕ) → at < length bs → length_to c (drop at bs) ≡ 0
      → to ≡ at + 1 + length_to c (drop (at + 1) bs)
      → later_parts c (drop at bs) ≡ take (to - (at + 1)) (drop (at + 1) bs) ∷ later_parts c (drop to bs)
  later-next bs at to h z e = later-here bs at h z ∙ parts_from bs (at + 1) to e

-- ## gathering numbers
-- the numbers of `all` are being gathered: `count` of them are in `out`, and `left` are left
pub record Gathering (all : List (List ℕ)) (before out : List ℕ) (count : ℕ) (left : List (List ℕ)) : Type 0 where
  pub size : length out ≡ length before
  pub good : all_numbers left ≡ all_numbers all
  pub counted : count + length left ≡ length all
  pub rest : sets out count (leading left) ≡ sets before 0 (leading all)

module _ (all : List (List ℕ)) (before : List ℕ) where
  pub gathering_none : Gathering all before before 0 all
  gathering_none = record { size = refl; good = refl; counted = omega arith; rest = refl }

  module _ (out : List ℕ) (count : ℕ) (w : List ℕ) (left : List (List ℕ)) (g : Gathering all before out count (w ∷ left)) where
    pub gathering_more : (n : ℕ) → number w ≡ some n → Gathering all before (set out count n) (count + 1) left
    unfolding all_numbers leading
    gathering_more n e =
        let t : is_number w ≡ true = (is-number w n e).0 in
        let v : value w ≡ n = (is-number w n e).1 in
        record {
          size = length-set out count n ∙ g.size;
          good = rw t at g.good;
          counted = omega (arith, g.counted);
          rest = rw add-one (rw (t, v) at g.rest);
        }

    pub gathered-bad : number w ≡ none → Gathered all before std.None out
    unfolding all_numbers leading
    gathered-bad e =
        let f : is_number w ≡ false = is_none w e in
        record { count = rw (← g.good, f); filled = rw f at g.rest }

  pub gathered-all : (out : List ℕ) (count : ℕ) (left : List (List ℕ)) → left ≡ [] → Gathering all before out count left
      → Gathered all before (std.Some count) out
  unfolding all_numbers leading
  gathered-all out count left e g =
      let n : count ≡ length all = omega (arith, rw e at g.counted) in
      record { count = rw (← g.good, e, n); filled = rw e at g.rest }
