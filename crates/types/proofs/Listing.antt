-- A list into lent memory: a loop has written the first i of its members at their places, and left the places from n on as
-- they were, n being how many are to be written. Assumes nothing.
use Prim.Native.Nat.{ℕ, zero, suc, ◌+◌, ◌≤◌, ◌<◌, min}
use native.Mathlib.Omega.{arith}
use native.Mathlib.Nat.{le_of_suc-le-suc}
use native.Mathlib.Numerals.{add-one}
use mathlib.Core.Path.{◌≡◌, refl, ◌∙◌}
use mathlib.Core.List.{List, [], ◌∷◌}
use lib.Dec.{ltb}
use lib.ListN.{length, take, drop, get_or, set, length-set, length-take}
use Rattle.std.specs.Prelude.{map}
use Rattle.std.proofs.lemmas.List.{map-set}
use lib.Seq.{get_or-take, take-suc, take-suc-set, drop-set-lt, take-length}
use borrow.Author.Tests.{ltb-true, ltb-false}
use Rattle.types.specs.Refusal.{Result}
use Rattle.types.specs.Table.{answer}
use Rattle.types.specs.Keyed.{entry, entries}
use Rattle.types.specs.Lists.{listed, roomFor, counted}
use Rattle.types.proofs.Cases.{split}
use Rattle.types.proofs.Columns.{length-entries}
use Rattle.types.proofs.Lists.{listed-short, listed-filled}

module _ {A : Type 0} (list out : List A) where
  pub record Written (n i : ℕ) (after : List A) : Type 0 where
    pub within : i ≤ n
    pub long : length after ≡ length out
    pub front : take i after ≡ take i list
    pub rest : drop n after ≡ drop n out

  -- how many are to be written: all, or none where they don't fit
  pub counted-fits : (n : ℕ) → n ≡ counted (roomFor (length list) (length out)) → (n ≤ length list) × (n ≤ length out)
  counted-fits n e =
      split (ltb (length out) (length list))
      (λ p. let z : n ≡ 0 = e ∙ rw p in (omega arith, omega arith))
      (λ p. let z : n ≡ length list = e ∙ rw p in (omega arith, omega (arith, ltb-false (length out) (length list) p)))

  pub none_written : (n : ℕ) → Written n 0 out
  none_written n = record { within = omega arith; long = refl; front = refl; rest = refl }

  pub one_more : (d : A) (n i : ℕ) (after : List A) → i < n → (n ≤ length list) × (n ≤ length out) → Written n i after
      → Written n (i + 1) (set after i (get_or list i d))
  one_more d n i after h fits w = record {
    within = omega arith;
    long = length-set after i (get_or list i d) ∙ w.long;
    front = rw (add-one i, take-suc-set after i (get_or list i d) (omega (arith, fits.1, w.long)), take-suc list i d (omega (arith, fits.0)), w.front);
    rest = drop-set-lt n after i (get_or list i d) h ∙ w.rest;
  }

  -- the same of a list of records that stand for the members
  pub one_more-of : {X : Type 0} (f : X → A) (d : A) (n i : ℕ) (after : List X) (x : X) → i < n → (n ≤ length list) × (n ≤ length out) → f x ≡ get_or list i d
      → Written n i (map f after) → Written n (i + 1) (map f (set after i x))
  one_more-of f d n i after x h fits e w = rw (map-set f after i x, e) (one_more d n i (map f after) h fits w)

  pub all-written : (n : ℕ) (after : List A) (outcome : Result ℕ) → outcome ≡ roomFor (length list) (length out) → n ≡ counted outcome → Written n n after
      → answer outcome after ≡ listed list out
  all-written n after outcome o c w =
      split (ltb (length out) (length list))
      (λ p.
      let z : n ≡ zero = c ∙ rw (o, p) in
      let kept : after ≡ out = rw z at w.rest in
      rw (o, p, kept) (rw p at (listed-short list out (ltb-true (length out) (length list) p))))
      (λ p.
      let z : n ≡ length list = c ∙ rw (o, p) in
      let front : take (length list) after ≡ list = rw z at w.front ∙ take-length list in
      let rest : drop (length list) after ≡ drop (length list) out = rw z at w.rest in
      rw (o, p) (rw p at (listed-filled list out (length list) after refl (ltb-false (length out) (length list) p) front rest)))

-- ## entries in the first n places of two arrays of m
entry_at : (i : ℕ) (ks vs : List ℕ) → i < length ks → i < length vs → get_or (entries ks vs) i (entry 0 0) ≡ entry (get_or ks i 0) (get_or vs i 0)
entry_at i [] vs h g = absurd (omega arith)
entry_at i (k ∷ ks) [] h g = absurd (omega arith)
entry_at zero (k ∷ ks) (v ∷ vs) h g = refl
entry_at (suc i) (k ∷ ks) (v ∷ vs) h g = entry_at i ks vs (le_of_suc-le-suc h) (le_of_suc-le-suc g)

module _ (n : ℕ) (ks vs : List ℕ) where
  pub length_pairs : (m : ℕ) → length ks ≡ m → length vs ≡ m → length (entries (take n ks) (take n vs)) ≡ min n m
  length_pairs m h g =
      length-entries (take n ks) (take n vs) (rw (length-take n ks, length-take n vs, h, g)) ∙ rw (length-take n ks, h)

  pub pair-at : (i : ℕ) → i < n → i < length ks → i < length vs → get_or (entries (take n ks) (take n vs)) i (entry 0 0) ≡ entry (get_or ks i 0) (get_or vs i 0)
  pair-at i l h g =
      entry_at i (take n ks) (take n vs) (rw (length-take n ks) (omega arith)) (rw (length-take n vs) (omega arith))
      ∙ rw (get_or-take n ks i 0 l, get_or-take n vs i 0 l)
