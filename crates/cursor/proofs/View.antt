-- The columns of a cursor and the ranges that they stand for: what a place of a column says of the range there, and what
-- a change of the columns does to the ranges. Assumes nothing.
use Prim.Native.Nat.{ℕ, zero, suc, ◌+◌, ◌≤◌, ◌<◌}
use native.Mathlib.Omega.{arith}
use native.Mathlib.Nat.{suc_inj}
use native.Mathlib.Numerals.{add-one}
use mathlib.Core.Path.{◌≡◌, refl, sym, ap, ◌∙◌}
use mathlib.Core.Bool.{◌&&◌}
use mathlib.Core.List.{List, [], ◌∷◌}
use lib.Dec.{ltb, eqb}
use lib.ListN.{length, take, drop, get_or, set, drop_of_length-le}
use lib.Seq.{drop-cons, length-take-le, get_or-take, take-set-lt}
use borrow.Author.Tests.{ltb-true}
use Rattle.types.specs.Zipped.{zipped, inserted, removed}
use Rattle.types.specs.Sorted.{Ascending, upTo}
use Rattle.types.proofs.Cases.{split}
use Rattle.types.proofs.Sorted.{up_to-next}
use Rattle.types.proofs.Zipped.{zipped-length, zipped_get_d, zipped-set-left, zipped-set-right, zipped-inserted, zipped-removed}
use Rattle.cursor.specs.Ranges.{range, Above}
use Rattle.cursor.specs.Place.{rangeAt}
use Rattle.cursor.specs.declared.Range.{Range}
use Rattle.cursor.proofs.Place.{place, end_before, next_at}

place-zipped : (o : ℕ) (s e : List ℕ) → length s ≡ length e → place o (zipped range s e) ≡ upTo o s
place-zipped o [] e h = refl
place-zipped o (x ∷ s) [] h = absurd (omega arith)
place-zipped o (x ∷ s) (y ∷ e) h = rw (up_to-next x o, place-zipped o s e (suc_inj h))

ascending_zipped : (lo n : ℕ) (s e : List ℕ) → length s ≡ length e → Above n (zipped range s e) → lo ≤ n → Ascending lo s
ascending_zipped lo n [] e h a k = tt
ascending_zipped lo n (x ∷ s) [] h a k = absurd (omega arith)
ascending_zipped lo n (x ∷ s) (y ∷ e) h a k = (omega arith, ascending_zipped (suc x) y s e (suc_inj h) a.3 (omega arith))

-- the ranges of the first n places of two columns
module _ (n : ℕ) (s e : List ℕ) (hs : n ≤ length s) (he : n ≤ length e) where
  abbrev ranges : List Range
  ranges = zipped range (take n s) (take n e)

  pub even : length (take n s) ≡ length (take n e)
  even = rw (length-take-le n s hs, length-take-le n e he)

  pub count : length ranges ≡ n
  count = zipped-length range (take n s) (take n e) even ∙ length-take-le n s hs

  pub range-is : (i : ℕ) → i < n → rangeAt i ranges ≡ range (get_or s i 0) (get_or e i 0)
  range-is i h = rw (zipped_get_d range i 0 0 (take n s) (take n e) even, get_or-take n s i 0 h, get_or-take n e i 0 h)

  -- the ranges from a place on
  pub ranges-from : (i : ℕ) → i < n → drop i ranges ≡ range (get_or s i 0) (get_or e i 0) ∷ drop (i + 1) ranges
  ranges-from i h = let k : i < length ranges = rw count h in rw (drop-cons ranges i (range 0 0) k, range-is i h, add-one i)

  pub ranges-over : (i : ℕ) → n ≤ i → drop i ranges ≡ []
  ranges-over i h = drop_of_length-le ranges {i = i} (rw count h)

  pub place_is : (o : ℕ) → place o ranges ≡ upTo o (take n s)
  place_is o = place-zipped o (take n s) (take n e) even

  pub starts_sorted : (lo : ℕ) → Above lo ranges → Ascending 0 (take n s)
  starts_sorted lo a = ascending_zipped 0 lo (take n s) (take n e) even a (omega arith)

  pub end_is : (lo i : ℕ) → i ≤ n → get_or (lo ∷ e) i 0 ≡ end_before lo i ranges
  end_is lo zero h = refl
  end_is lo (suc k) h = ap (λ (r : Range). r.end) (sym (range-is k h))

  pub next-is : (o i : ℕ) → (ltb i n && eqb (get_or s i 0) (o + 1)) ≡ next_at o i ranges
  next-is o i = rw count (split (ltb i n) (λ p. rw (p, range-is i (ltb-true i n p))) (λ p. rw p))

  -- what is done to both columns is done to the ranges
  pub ranges-inserted : (i x y : ℕ) (s' e' : List ℕ) → take (n + 1) s' ≡ inserted i x (take n s) → take (n + 1) e' ≡ inserted i y (take n e)
      → zipped range (take (n + 1) s') (take (n + 1) e') ≡ inserted i (range x y) ranges
  ranges-inserted i x y s' e' p q = rw (p, q) (zipped-inserted range (take n s) (take n e) even i x y)

  pub ranges-removed : (j k m : ℕ) (s' e' : List ℕ) → take m s' ≡ removed j k (take n s) → take m e' ≡ removed j k (take n e)
      → zipped range (take m s') (take m e') ≡ removed j k ranges
  ranges-removed j k m s' e' p q = rw (p, q) (zipped-removed range (take n s) (take n e) even j k)

  pub ranges-start : (i x : ℕ) → i < n → zipped range (take n (set s i x)) (take n e) ≡ set ranges i (range x (rangeAt i ranges).end)
  ranges-start i x h =
      rw (range-is i h, take-set-lt n s i x h)
      (zipped-set-left range i x 0 (take n s) (take n e) ∙ rw (get_or-take n e i 0 h))

  pub ranges-end : (i y : ℕ) → i < n → zipped range (take n s) (take n (set e i y)) ≡ set ranges i (range (rangeAt i ranges).start y)
  ranges-end i y h =
      rw (range-is i h, take-set-lt n e i y h)
      (zipped-set-right range i 0 y (take n s) (take n e) ∙ rw (get_or-take n s i 0 h))
