-- A keyed list held as two columns, of keys and of values: what each operation on the list does to the columns at the
-- place of the key.
-- Assumes nothing.
use Prim.Native.Nat.{ℕ, zero, suc, ◌+◌, ◌≤◌, ◌<◌, min}
use native.Mathlib.Omega.{arith}
use native.Mathlib.Nat.{le_of_suc-le-suc}
use native.Mathlib.Numerals.{add-one}
use native.Mathlib.Decide.{ℕ_discrete}
use mathlib.Core.Path.{◌≡◌, refl, sym, ap, ◌∙◌}
use mathlib.Core.List.{List, [], ◌∷◌, ◌++◌, map}
use mathlib.Core.Option.{none, some, none-ne-some}
use lib.Dec.{ltb}
use lib.ListN.{length, take, drop, get_or, set, drop_of_length-le}
use lib.Seq.{length-take-le, get_or-take, drop-nil}
use borrow.Author.Tests.{ltb-true, ltb-false, lt-ltb, le-ltb, eq-eqb, ne_eqb}
use Rattle.types.specs.Keyed.{Entry, entry, lookup, put, delete, drop_below, Rising, entries, map_values}
use Rattle.types.specs.Sorted.{Ascending, below}
use Rattle.types.proofs.Cases.{split}
use Rattle.types.proofs.Keyed.{delete-absent}
use Rattle.types.proofs.Sorted.{ascending_at}

module _ {A : Type 0} where
  pub length-entries : (ks : List ℕ) (vs : List A) → length ks ≡ length vs → length (entries ks vs) ≡ length ks
  length-entries [] vs e = refl
  length-entries (k ∷ ks) [] e = absurd (omega arith)
  length-entries (k ∷ ks) (v ∷ vs) e = ap suc (length-entries ks vs (omega arith))

  pub entries_snoc : (x : ℕ) (v : A) (ks : List ℕ) (vs : List A) → length ks ≡ length vs → entries (ks ++ (x ∷ [])) (vs ++ (v ∷ [])) ≡ entries ks vs ++ (entry x v ∷ [])
  entries_snoc x v [] [] n = refl
  entries_snoc x v [] (w ∷ vs) n = absurd (omega arith)
  entries_snoc x v (k ∷ ks) [] n = absurd (omega arith)
  entries_snoc x v (k ∷ ks) (w ∷ vs) n = ap (λ (l : List (Entry A)). entry k w ∷ l) (entries_snoc x v ks vs (omega arith))

  -- the entries from place i on begin with the one there, and there are none past the shorter column
  pub drop-entry : (d : A) (i : ℕ) (ks : List ℕ) (vs : List A) → i < length ks → i < length vs
      → drop i (entries ks vs) ≡ entry (get_or ks i 0) (get_or vs i d) ∷ drop (suc i) (entries ks vs)
  drop-entry d i [] vs h g = absurd (omega arith)
  drop-entry d i (k ∷ ks) [] h g = absurd (omega arith)
  drop-entry d zero (k ∷ ks) (v ∷ vs) h g = refl
  drop-entry d (suc i) (k ∷ ks) (v ∷ vs) h g = drop-entry d i ks vs (le_of_suc-le-suc h) (le_of_suc-le-suc g)

  pub drop-entries-past : (i : ℕ) (ks : List ℕ) (vs : List A) → min (length ks) (length vs) ≤ i → drop i (entries ks vs) ≡ []
  drop-entries-past i [] vs h = drop-nil i
  drop-entries-past i (k ∷ ks) [] h = drop-nil i
  drop-entries-past zero (k ∷ ks) (v ∷ vs) h = absurd (omega arith)
  drop-entries-past (suc i) (k ∷ ks) (v ∷ vs) h = drop-entries-past i ks vs (omega arith)

  -- the same where the first n places of two arrays are in use, and nothing from n on
  module _ (d : A) (n : ℕ) (ks : List ℕ) (vs : List A) (fits : n ≤ length ks) (fits' : n ≤ length vs) where
    even : length (take n ks) ≡ length (take n vs)
    even = length-take-le n ks fits ∙ sym (length-take-le n vs fits')

    pub length-used : length (entries (take n ks) (take n vs)) ≡ n
    length-used = length-entries (take n ks) (take n vs) even ∙ length-take-le n ks fits

    pub drop-used : (i : ℕ) → i < n → drop i (entries (take n ks) (take n vs)) ≡ entry (get_or ks i 0) (get_or vs i d) ∷ drop (i + 1) (entries (take n ks) (take n vs))
    drop-used i h =
        rw (add-one, ← get_or-take n ks i 0 h, ← get_or-take n vs i d h)
        (drop-entry d i (take n ks) (take n vs) (rw (length-take-le n ks fits) h) (rw (length-take-le n vs fits') h))

    pub drop-unused : (i : ℕ) → n ≤ i → drop i (entries (take n ks) (take n vs)) ≡ []
    drop-unused i h = drop_of_length-le (entries (take n ks) (take n vs)) {i = i} (rw length-used h)

  pub rising_ascending : (lo : ℕ) (ks : List ℕ) (vs : List A) → length ks ≡ length vs → Rising lo (entries ks vs) → Ascending lo ks
  rising_ascending lo [] vs e r = tt
  rising_ascending lo (k ∷ ks) [] e r = absurd (omega arith)
  rising_ascending lo (k ∷ ks) (v ∷ vs) e r = (r.0, rising_ascending (suc k) ks vs (omega arith) r.1)

  -- no key from lo on is below lo
  under : (x lo : ℕ) (ks : List ℕ) (vs : List A) → Ascending lo ks → x < lo → lookup x (entries ks vs) ≡ none
  under x lo [] vs a h = refl
  under x lo (k ∷ ks) [] a h = refl
  under x lo (k ∷ ks) (v ∷ vs) a h = rw (ne_eqb x k (λ q. omega arith)) (under x (suc k) ks vs a.1 (omega arith))

  -- ## a key that stands at place i
  pub lookup-found : (d : A) (x i lo : ℕ) (ks : List ℕ) (vs : List A) → length ks ≡ length vs → Ascending lo ks → i < length ks → get_or ks i 0 ≡ x
      → lookup x (entries ks vs) ≡ some (get_or vs i d)
  lookup-found d x i lo [] vs n a h e = absurd (omega arith)
  lookup-found d x i lo (k ∷ ks) [] n a h e = absurd (omega arith)
  lookup-found d x zero lo (k ∷ ks) (v ∷ vs) n a h e = rw (eq-eqb x k (sym e))
  lookup-found d x (suc i) lo (k ∷ ks) (v ∷ vs) n a h e =
      let g : i < length ks = le_of_suc-le-suc h in
      rw (ne_eqb x k (λ q. omega (arith, ascending_at i (suc k) ks a.1 g))) (lookup-found d x i (suc k) ks vs (omega arith) a.1 g e)

  pub put-found : (x i lo : ℕ) (v : A) (ks : List ℕ) (vs : List A) → length ks ≡ length vs → Ascending lo ks → i < length ks → get_or ks i 0 ≡ x
      → put x v (entries ks vs) ≡ entries ks (set vs i v)
  put-found x i lo v [] vs n a h e = absurd (omega arith)
  put-found x i lo v (k ∷ ks) [] n a h e = absurd (omega arith)
  put-found x zero lo v (k ∷ ks) (w ∷ vs) n a h e = rw (le-ltb x k (omega arith), eq-eqb x k (sym e), e)
  put-found x (suc i) lo v (k ∷ ks) (w ∷ vs) n a h e =
      let g : i < length ks = le_of_suc-le-suc h in
      let b : suc k ≤ get_or ks i 0 = ascending_at i (suc k) ks a.1 g in
      rw (le-ltb x k (omega arith), ne_eqb x k (λ q. omega arith)) (ap (λ (t : List (Entry A)). entry k w ∷ t) (put-found x i (suc k) v ks vs (omega arith) a.1 g e))

  pub delete-found : (x i lo : ℕ) (ks : List ℕ) (vs : List A) → length ks ≡ length vs → Ascending lo ks → i < length ks → get_or ks i 0 ≡ x
      → delete x (entries ks vs) ≡ entries (take i ks ++ drop (suc i) ks) (take i vs ++ drop (suc i) vs)
  delete-found x i lo [] vs n a h e = absurd (omega arith)
  delete-found x i lo (k ∷ ks) [] n a h e = absurd (omega arith)
  delete-found x zero lo (k ∷ ks) (w ∷ vs) n a h e =
      rw (eq-eqb x k (sym e)) (delete-absent x (entries ks vs) (under x (suc k) ks vs a.1 (omega arith)))
  delete-found x (suc i) lo (k ∷ ks) (w ∷ vs) n a h e =
      let g : i < length ks = le_of_suc-le-suc h in
      rw (ne_eqb x k (λ q. omega (arith, ascending_at i (suc k) ks a.1 g))) (ap (λ (t : List (Entry A)). entry k w ∷ t) (delete-found x i (suc k) ks vs (omega arith) a.1 g e))

  -- ## a key that stands nowhere
  pub lookup_missing : (x lo : ℕ) (ks : List ℕ) (vs : List A) → length ks ≡ length vs → Ascending lo ks
      → (below x ks < length ks → get_or ks (below x ks) 0 ≡ x → ⊥) → lookup x (entries ks vs) ≡ none
  lookup_missing x lo [] vs n a h = refl
  lookup_missing x lo (k ∷ ks) [] n a h = refl
  lookup_missing x lo (k ∷ ks) (v ∷ vs) n a h =
      split (ltb k x)
      (λ t. rw (ne_eqb x k (λ q. omega (arith, ltb-true k x t))) (lookup_missing x (suc k) ks vs (omega arith) a.1 (λ l. rw t at h (omega arith))))
      (λ t. let q : x ≡ k → ⊥ = λ q. rw t at h (omega arith) (sym q) in rw (ne_eqb x k q) (under x (suc k) ks vs a.1 (omega (arith, ltb-false k x t))))

  pub put_missing : (x : ℕ) (v : A) (ks : List ℕ) (vs : List A) → length ks ≡ length vs → lookup x (entries ks vs) ≡ none
      → put x v (entries ks vs) ≡ entries (take (below x ks) ks ++ x ∷ drop (below x ks) ks) (take (below x ks) vs ++ v ∷ drop (below x ks) vs)
  put_missing x v [] [] n h = refl
  put_missing x v [] (w ∷ vs) n h = absurd (omega arith)
  put_missing x v (k ∷ ks) [] n h = absurd (omega arith)
  put_missing x v (k ∷ ks) (w ∷ vs) n h =
      split (ltb k x)
      (λ t. rw (t, le-ltb x k (omega (arith, ltb-true k x t)), ne_eqb x k (λ q. omega (arith, ltb-true k x t)))
      (ap (λ (l : List (Entry A)). entry k w ∷ l) (put_missing x v ks vs (omega arith) (rw (ne_eqb x k (λ q. omega (arith, ltb-true k x t))) at h))))
      (λ t. elim (ℕ_discrete x k) [
        | yes q ↦ absurd (none-ne-some w (sym (rw (eq-eqb x k q) at h)))
        | no q ↦ rw (t, lt-ltb x k (omega (arith, ltb-false k x t)))
      ])

  -- ## the keys below a bound stand first
  keep_all : (x lo : ℕ) (ks : List ℕ) (vs : List A) → Ascending lo ks → x ≤ lo → drop_below x (entries ks vs) ≡ entries ks vs
  keep_all x lo [] vs a h = refl
  keep_all x lo (k ∷ ks) [] a h = refl
  keep_all x lo (k ∷ ks) (v ∷ vs) a h = rw (le-ltb k x (omega arith)) (ap (λ (t : List (Entry A)). entry k v ∷ t) (keep_all x (suc k) ks vs a.1 (omega arith)))

  pub drop-below-place : (x lo : ℕ) (ks : List ℕ) (vs : List A) → length ks ≡ length vs → Ascending lo ks
      → drop_below x (entries ks vs) ≡ entries (drop (below x ks) ks) (drop (below x ks) vs)
  drop-below-place x lo [] vs n a = refl
  drop-below-place x lo (k ∷ ks) [] n a = absurd (omega arith)
  drop-below-place x lo (k ∷ ks) (v ∷ vs) n a =
      split (ltb k x)
      (λ t. rw t (drop-below-place x (suc k) ks vs (omega arith) a.1))
      (λ t. rw t (ap (λ (l : List (Entry A)). entry k v ∷ l) (keep_all x (suc k) ks vs a.1 (omega (arith, ltb-false k x t)))))

pub entries-map : {A B : Type 0} (f : A → B) (ks : List ℕ) (vs : List A) → entries ks (map f vs) ≡ map_values f (entries ks vs)
entries-map f [] vs = refl
entries-map f (k ∷ ks) [] = refl
entries-map {B} f (k ∷ ks) (v ∷ vs) = ap (λ (t : List (Entry B)). entry k (f v) ∷ t) (entries-map f ks vs)
