-- The loop that carries counts over a restart: what is in the columns and what is still to come make up the whole. Assumes
-- nothing.
use Prim.Native.Nat.{ℕ, suc, ◌+◌, ◌<◌, ◌≤◌}
use native.Mathlib.Omega.{arith}
use native.Mathlib.Numerals.{add-one}
use mathlib.Core.Path.{◌≡◌, refl, sym, ap, ◌∙◌}
use mathlib.Core.Bool.{true, false, not}
use mathlib.Core.List.{List, [], ◌∷◌, ◌++◌, append-nil}
use lib.ListN.{length, take, drop, get_or, set, length-take, drop_of_length-le}
use lib.Seq.{drop-cons, get_or-take, take-suc-set, append_snoc, length-take-le}
use borrow.Author.Tests.{not-true, not-false}
use Rattle.types.specs.Keyed.{Entry, entry, entries}
use Rattle.cursor.specs.Cursor.{Cursor}
use Rattle.attempt.specs.Codec.{nil}
use Rattle.types.specs.declared.Pair.{Pair}
use Rattle.types.specs.Lists.{entry_of, entries_of}
use Rattle.starts.specs.Restart.{is_dropped, unsettled_counts}

-- one entry more at the end of both columns
entries_snoc : (ks vs : List ℕ) (k v : ℕ) → length ks ≡ length vs → entries (ks ++ k ∷ []) (vs ++ v ∷ []) ≡ entries ks vs ++ entry k v ∷ []
entries_snoc [] [] k v e = refl
entries_snoc [] (w ∷ vs) k v e = absurd (omega arith)
entries_snoc (j ∷ ks) [] k v e = absurd (omega arith)
entries_snoc (j ∷ ks) (w ∷ vs) k v e = ap (λ (l : List (Entry ℕ)). entry j w ∷ l) (entries_snoc ks vs k v (omega arith))

pushed : (ks vs : List ℕ) (n k v : ℕ) → n < length ks → n < length vs
    → entries (take (n + 1) (set ks n k)) (take (n + 1) (set vs n v)) ≡ entries (take n ks) (take n vs) ++ entry k v ∷ []
pushed ks vs n k v h g =
    rw (add-one, take-suc-set ks n k h, take-suc-set vs n v g)
    (entries_snoc (take n ks) (take n vs) k v (length-take-le n ks (omega arith) ∙ sym (length-take-le n vs (omega arith))))

module _ (k : Cursor) (pairs : List Pair) (n i : ℕ) (fits : n ≤ length pairs) where
  abbrev rest : ℕ → List (Entry ℕ)
  rest j = unsettled_counts k (entries_of (drop j (take n pairs)))

  module _ (h : i < n) where
    abbrev here : Pair
    here = get_or pairs i nil

    next : drop i (take n pairs) ≡ here ∷ drop (suc i) (take n pairs)
    next = drop-cons (take n pairs) i nil (simp length-take (omega arith)) ∙ ap (λ (p : Pair). p ∷ drop (suc i) (take n pairs)) (get_or-take n pairs i nil h)

    pub carried-more : (os cs : List ℕ) (len : ℕ) → len < length os → len < length cs → not (is_dropped k (entry_of here)) ≡ true
        → entries (take (len + 1) (set os len here.offset)) (take (len + 1) (set cs len here.attempt)) ++ rest (i + 1) ≡ entries (take len os) (take len cs) ++ rest i
    carried-more os cs len o c t =
        rw (pushed os cs len here.offset here.attempt o c, add-one i, next, not-true (is_dropped k (entry_of here)) t, append_snoc)

    pub dropped_more : not (is_dropped k (entry_of here)) ≡ false → rest (i + 1) ≡ rest i
    dropped_more t = rw (add-one i, next, not-false (is_dropped k (entry_of here)) t)

  pub carried-end : n ≤ i → (l : List (Entry ℕ)) → l ++ rest i ≡ l
  carried-end h l =
      let over : length (take n pairs) ≤ i = simp length-take (omega arith) in
      rw (drop_of_length-le (take n pairs) over, append-nil)
