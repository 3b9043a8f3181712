-- Laws of keyed lists: what a look-up finds after each operation, that they stay sorted, and how long they are.
-- Assumes nothing.
use Prim.Native.Nat.{ℕ, zero, suc, ◌≤◌, ◌<◌}
use native.Mathlib.Omega.{arith}
use native.Mathlib.Nat.{le_of_suc-le-suc}
use mathlib.Core.Path.{◌≡◌, refl, sym, ap, ◌∙◌}
use mathlib.Core.Bool.{true, false, cond}
use mathlib.Core.List.{List, [], ◌∷◌}
use mathlib.Core.Option.{none, some, none-ne-some, map}
use lib.Dec.{ltb, eqb}
use lib.ListN.{length, get_or}
use borrow.Author.Tests.{ltb-true, ltb-false, eqb-true, eqb-false, eq-eqb, ne_eqb}
use Rattle.types.specs.Keyed.{Entry, lookup, put, update, delete, drop_below, Rising, All, map_values}
use Rattle.types.proofs.Cases.{split}

eqb_move : (j k x : ℕ) → eqb j k ≡ false → eqb k x ≡ true → eqb j x ≡ false
eqb_move j k x n q = rw (eqb-true k x q) at n

module _ {A : Type 0} where
  -- ## look-up after each operation
  pub lookup-put-same : (k : ℕ) (v : A) (l : List (Entry A)) → lookup k (put k v l) ≡ some v
  lookup-put-same k v [] = rw (eq-eqb k k refl)
  lookup-put-same k v (e ∷ l) =
      split (ltb k e.key)
      (λ p. rw (p, eq-eqb k k refl))
      (λ p. split (eqb k e.key) (λ q. rw (p, q, eq-eqb k k refl)) (λ q. rw (p, q, q) (lookup-put-same k v l)))

  pub lookup-put-other : (j k : ℕ) (v : A) (l : List (Entry A)) → eqb j k ≡ false → lookup j (put k v l) ≡ lookup j l
  lookup-put-other j k v [] n = rw n
  lookup-put-other j k v (e ∷ l) n =
      split (ltb k e.key)
      (λ p. rw (p, n))
      (λ p. split (eqb k e.key)
      (λ q. rw (p, q, n, eqb_move j k e.key n q))
      (λ q. rw (p, q) (ap (cond (eqb j e.key) (some e.value)) (lookup-put-other j k v l n))))

  pub lookup-delete-same : (k : ℕ) (l : List (Entry A)) → lookup k (delete k l) ≡ none
  lookup-delete-same k [] = refl
  lookup-delete-same k (e ∷ l) = split (eqb k e.key) (λ q. rw q (lookup-delete-same k l)) (λ q. rw (q, q) (lookup-delete-same k l))

  pub lookup-delete-other : (j k : ℕ) (l : List (Entry A)) → eqb j k ≡ false → lookup j (delete k l) ≡ lookup j l
  lookup-delete-other j k [] n = refl
  lookup-delete-other j k (e ∷ l) n =
      split (eqb k e.key)
      (λ q. rw (q, eqb_move j k e.key n q) (lookup-delete-other j k l n))
      (λ q. rw q (ap (cond (eqb j e.key) (some e.value)) (lookup-delete-other j k l n)))

  pub lookup-drop-below : (j b : ℕ) (l : List (Entry A)) → ltb j b ≡ true → lookup j (drop_below b l) ≡ none
  lookup-drop-below j b [] n = refl
  lookup-drop-below j b (e ∷ l) n =
      split (ltb e.key b)
      (λ q. rw q (lookup-drop-below j b l n))
      (λ q. rw (q, ne_eqb j e.key (λ r. omega (arith, ltb-true j b n, ltb-false e.key b q))) (lookup-drop-below j b l n))

  pub lookup_keep_above : (j b : ℕ) (l : List (Entry A)) → ltb j b ≡ false → lookup j (drop_below b l) ≡ lookup j l
  lookup_keep_above j b [] n = refl
  lookup_keep_above j b (e ∷ l) n =
      split (ltb e.key b)
      (λ q. rw (q, ne_eqb j e.key (λ r. omega (arith, ltb-false j b n, ltb-true e.key b q))) (lookup_keep_above j b l n))
      (λ q. rw q (ap (cond (eqb j e.key) (some e.value)) (lookup_keep_above j b l n)))

  -- ## they stay sorted
  pub rising-weaken : (a b : ℕ) (l : List (Entry A)) → a ≤ b → Rising b l → Rising a l
  rising-weaken a b [] h r = tt
  rising-weaken a b (e ∷ l) h r = (omega arith, r.1)

  pub rising-at : (lo i : ℕ) (d : Entry A) (l : List (Entry A)) → Rising lo l → i < length l → lo ≤ (get_or l i d).key
  rising-at lo i d [] r h = absurd (omega arith)
  rising-at lo zero d (e ∷ l) r h = r.0
  rising-at lo (suc i) d (e ∷ l) r h = omega (arith, r.0, rising-at (suc e.key) i d l r.1 (le_of_suc-le-suc h))

  -- a key stands at one place
  pub rising-once : (lo i j : ℕ) (d : Entry A) (l : List (Entry A)) → Rising lo l → i < length l → j < length l → (get_or l i d).key ≡ (get_or l j d).key → i ≡ j
  rising-once lo i j d [] r h k q = absurd (omega arith)
  rising-once lo zero zero d (e ∷ l) r h k q = refl
  rising-once lo zero (suc j) d (e ∷ l) r h k q = absurd (omega (arith, rising-at (suc e.key) j d l r.1 (le_of_suc-le-suc k)))
  rising-once lo (suc i) zero d (e ∷ l) r h k q = absurd (omega (arith, rising-at (suc e.key) i d l r.1 (le_of_suc-le-suc h)))
  rising-once lo (suc i) (suc j) d (e ∷ l) r h k q = ap suc (rising-once (suc e.key) i j d l r.1 (le_of_suc-le-suc h) (le_of_suc-le-suc k) q)

  pub rising-put : (lo k : ℕ) (v : A) (l : List (Entry A)) → lo ≤ k → Rising lo l → Rising lo (put k v l)
  rising-put lo k v [] h r = (h, tt)
  rising-put lo k v (e ∷ l) h r =
      split (ltb k e.key)
      (λ p. rw p (h, (ltb-true k e.key p, r.1)))
      (λ p. split (eqb k e.key)
      (λ q. rw (p, q) (h, rw (← eqb-true k e.key q) at r.1))
      (λ q. rw (p, q) (r.0, rising-put (suc e.key) k v l (omega (arith, ltb-false k e.key p, eqb-false k e.key q)) r.1)))

  -- ## lengths
  pub length-put : (k : ℕ) (v : A) (l : List (Entry A)) → length (put k v l) ≤ suc (length l)
  length-put k v [] = omega arith
  length-put k v (e ∷ l) =
      split (ltb k e.key)
      (λ p. rw p (omega arith))
      (λ p. split (eqb k e.key) (λ q. rw (p, q) (omega arith)) (λ q. rw (p, q) (omega (arith, length-put k v l))))

  -- a key below every key of a sorted list is not there
  pub lookup-under : (lo k : ℕ) (l : List (Entry A)) → Rising lo l → k < lo → lookup k l ≡ none
  lookup-under lo k [] r h = refl
  lookup-under lo k (e ∷ l) r h = rw (ne_eqb k e.key (λ q. omega arith)) (lookup-under (suc e.key) k l r.1 (omega arith))

  -- a key that is there keeps its place
  pub length-put-old : (lo k : ℕ) (v w : A) (l : List (Entry A)) → Rising lo l → lookup k l ≡ some w → length (put k v l) ≡ length l
  length-put-old lo k v w [] r h = absurd (none-ne-some w h)
  length-put-old lo k v w (e ∷ l) r h =
      split (ltb k e.key)
      (λ p. absurd (none-ne-some w (sym (lookup-under e.key k (e ∷ l) (omega arith, r.1) (ltb-true k e.key p)) ∙ h)))
      (λ p. split (eqb k e.key) (λ q. rw (p, q)) (λ q. rw (p, q) (ap suc (length-put-old (suc e.key) k v w l r.1 (rw q at h)))))

  -- a new one adds a place
  pub length-put-new : (k : ℕ) (v : A) (l : List (Entry A)) → lookup k l ≡ none → length (put k v l) ≡ suc (length l)
  length-put-new k v [] h = refl
  length-put-new k v (e ∷ l) h =
      split (ltb k e.key)
      (λ p. rw p)
      (λ p. split (eqb k e.key)
      (λ q. absurd (none-ne-some e.value (sym (rw q at h))))
      (λ q. rw (p, q) (ap suc (length-put-new k v l (rw q at h)))))

  pub rising-delete : (lo k : ℕ) (l : List (Entry A)) → Rising lo l → Rising lo (delete k l)
  rising-delete lo k [] r = tt
  rising-delete lo k (e ∷ l) r =
      split (eqb k e.key)
      (λ q. rw q (rising-weaken lo (suc e.key) (delete k l) (omega arith) (rising-delete (suc e.key) k l r.1)))
      (λ q. rw q (r.0, rising-delete (suc e.key) k l r.1))

  pub length-delete : (k : ℕ) (l : List (Entry A)) → length (delete k l) ≤ length l
  length-delete k [] = omega arith
  length-delete k (e ∷ l) = split (eqb k e.key) (λ q. rw q (omega (arith, length-delete k l))) (λ q. rw q (omega (arith, length-delete k l)))

  pub delete-absent : (x : ℕ) (l : List (Entry A)) → lookup x l ≡ none → delete x l ≡ l
  delete-absent x [] h = refl
  delete-absent x (e ∷ l) h =
      split (eqb x e.key)
      (λ q. absurd (none-ne-some e.value (sym (rw q at h))))
      (λ q. rw q (ap (λ (t : List (Entry A)). e ∷ t) (delete-absent x l (rw q at h))))

  pub length-delete-old : (k : ℕ) (v : A) (l : List (Entry A)) → lookup k l ≡ some v → length (delete k l) < length l
  length-delete-old k v [] h = absurd (none-ne-some v h)
  length-delete-old k v (e ∷ l) h =
      split (eqb k e.key)
      (λ q. rw q (omega (arith, length-delete k l)))
      (λ q. rw q (omega (arith, length-delete-old k v l (rw q at h))))

  pub rising-drop_below : (lo b : ℕ) (l : List (Entry A)) → Rising lo l → Rising lo (drop_below b l)
  rising-drop_below lo b [] r = tt
  rising-drop_below lo b (e ∷ l) r =
      split (ltb e.key b)
      (λ q. rw q (rising-weaken lo (suc e.key) (drop_below b l) (omega arith) (rising-drop_below (suc e.key) b l r.1)))
      (λ q. rw q (r.0, rising-drop_below (suc e.key) b l r.1))

  pub length-drop_below : (b : ℕ) (l : List (Entry A)) → length (drop_below b l) ≤ length l
  length-drop_below b [] = omega arith
  length-drop_below b (e ∷ l) = split (ltb e.key b) (λ q. rw q (omega (arith, length-drop_below b l))) (λ q. rw q (omega (arith, length-drop_below b l)))

  -- what holds of all that is found holds of every entry
  pub all-of-lookup : (P : ℕ → A → Type 0) (lo : ℕ) (l : List (Entry A)) → Rising lo l → ((o : ℕ) (v : A) → lookup o l ≡ some v → P o v) → All P l
  all-of-lookup P lo [] r h = tt
  all-of-lookup P lo (e ∷ l) r h = (
    h e.key e.value (rw (eq-eqb e.key e.key refl)),
    all-of-lookup P (suc e.key) l r.1 (λ o v q. h o v (split (eqb o e.key)
        (λ t. absurd (none-ne-some v (sym (lookup-under (suc e.key) o l r.1 (omega (arith, eqb-true o e.key t))) ∙ q)))
        (λ t. rw t q))),
  )

  pub lookup-all : (P : ℕ → A → Type 0) (k : ℕ) (v : A) (l : List (Entry A)) → All P l → lookup k l ≡ some v → P k v
  lookup-all P k v [] a h = absurd (none-ne-some v h)
  lookup-all P k v (e ∷ l) a h =
      split (eqb k e.key)
      (λ q. let w : some e.value ≡ some v = rw q at h in let u : e.value ≡ v = cc in rw (eqb-true k e.key q, ← u) a.0)
      (λ q. lookup-all P k v l a.1 (rw q at h))

  pub all-put : (P : ℕ → A → Type 0) (k : ℕ) (v : A) (l : List (Entry A)) → P k v → All P l → All P (put k v l)
  all-put P k v [] p a = (p, tt)
  all-put P k v (e ∷ l) p a =
      split (ltb k e.key)
      (λ t. rw t (p, a))
      (λ t. split (eqb k e.key) (λ q. rw (t, q) (p, a.1)) (λ q. rw (t, q) (a.0, all-put P k v l p a.1)))

  pub all-delete : (P : ℕ → A → Type 0) (k : ℕ) (l : List (Entry A)) → All P l → All P (delete k l)
  all-delete P k [] a = tt
  all-delete P k (e ∷ l) a = split (eqb k e.key) (λ q. rw q (all-delete P k l a.1)) (λ q. rw q (a.0, all-delete P k l a.1))

  pub all-drop_below : (P : ℕ → A → Type 0) (b : ℕ) (l : List (Entry A)) → All P l → All P (drop_below b l)
  all-drop_below P b [] a = tt
  all-drop_below P b (e ∷ l) a = split (ltb e.key b) (λ q. rw q (all-drop_below P b l a.1)) (λ q. rw q (a.0, all-drop_below P b l a.1))

  -- ## a value changed in its place is the value put there
  pub update-put : (lo k : ℕ) (f : A → A) (v : A) (l : List (Entry A)) → Rising lo l → lookup k l ≡ some v → update k f l ≡ put k (f v) l
  update-put lo k f v [] r h = absurd (none-ne-some v h)
  update-put lo k f v (e ∷ l) r h =
      split (ltb k e.key)
      (λ t. absurd (none-ne-some v (sym (lookup-under e.key k (e ∷ l) (omega arith, r.1) (ltb-true k e.key t)) ∙ h)))
      (λ t. split (eqb k e.key)
      (λ q. let w : some e.value ≡ some v = rw q at h in let u : e.value ≡ v = cc in rw (t, q, u, eqb-true k e.key q))
      (λ q. rw (t, q) (ap (λ (m : List (Entry A)). e ∷ m) (update-put (suc e.key) k f v l r.1 (rw q at h)))))

  -- ## a look-up after each change, for any key
  pub lookup-put : (j k : ℕ) (v : A) (l : List (Entry A)) → lookup j (put k v l) ≡ cond (eqb j k) (some v) (lookup j l)
  lookup-put j k v l = split (eqb j k) (λ q. rw (q, eqb-true j k q) (lookup-put-same k v l)) (λ q. rw q (lookup-put-other j k v l q))

  pub lookup-delete : (j k : ℕ) (l : List (Entry A)) → lookup j (delete k l) ≡ cond (eqb j k) none (lookup j l)
  lookup-delete j k l = split (eqb j k) (λ q. rw (q, eqb-true j k q) (lookup-delete-same k l)) (λ q. rw q (lookup-delete-other j k l q))

  pub lookup-drop_below : (j b : ℕ) (l : List (Entry A)) → lookup j (drop_below b l) ≡ cond (ltb j b) none (lookup j l)
  lookup-drop_below j b l = split (ltb j b) (λ q. rw q (lookup-drop-below j b l q)) (λ q. rw q (lookup_keep_above j b l q))

  pub lookup-update : (j k : ℕ) (f : A → A) (l : List (Entry A)) → lookup j (update k f l) ≡ cond (eqb j k) (map f (lookup j l)) (lookup j l)
  lookup-update j k f [] = split (eqb j k) (λ q. rw q) (λ q. rw q)
  lookup-update j k f (e ∷ l) =
      split (eqb k e.key)
      (λ q. split (eqb j k)
      (λ p. rw (q, p, eqb-true j k p, q))
      (λ p. rw (q, p, eqb_move j k e.key p q)))
      (λ q. split (eqb j e.key)
      (λ p. let n : eqb j k ≡ false = ne_eqb j k (λ r. eqb-false k e.key q (sym r ∙ eqb-true j e.key p)) in rw (q, p, n))
      (λ p. rw (q, p) (lookup-update j k f l)))

  pub rising-update : (lo k : ℕ) (f : A → A) (l : List (Entry A)) → Rising lo l → Rising lo (update k f l)
  rising-update lo k f [] r = tt
  rising-update lo k f (e ∷ l) r = split (eqb k e.key) (λ q. rw q r) (λ q. rw q (r.0, rising-update (suc e.key) k f l r.1))

  pub length-update : (k : ℕ) (f : A → A) (l : List (Entry A)) → length (update k f l) ≡ length l
  length-update k f [] = refl
  length-update k f (e ∷ l) = split (eqb k e.key) (λ q. rw q) (λ q. rw q (ap suc (length-update k f l)))

  pub all-update : (P : ℕ → A → Type 0) (k : ℕ) (f : A → A) (l : List (Entry A)) → ((o : ℕ) (v : A) → P o v → P o (f v)) → All P l → All P (update k f l)
  all-update P k f [] h a = tt
  all-update P k f (e ∷ l) h a =
      split (eqb k e.key)
      (λ q. rw q (h e.key e.value a.0, a.1))
      (λ q. rw q (a.0, all-update P k f l h a.1))

-- ## every value changed
module _ {A B : Type 0} (f : A → B) where
  pub lookup-map_values : (k : ℕ) (l : List (Entry A)) → lookup k (map_values f l) ≡ map f (lookup k l)
  lookup-map_values k [] = refl
  lookup-map_values k (e ∷ l) = split (eqb k e.key) (λ q. rw q) (λ q. rw q (lookup-map_values k l))

  pub rising-map_values : (lo : ℕ) (l : List (Entry A)) → Rising lo l → Rising lo (map_values f l)
  rising-map_values lo [] r = tt
  rising-map_values lo (e ∷ l) r = (r.0, rising-map_values (suc e.key) l r.1)

  pub length-map_values : (l : List (Entry A)) → length (map_values f l) ≡ length l
  length-map_values [] = refl
  length-map_values (e ∷ l) = ap suc (length-map_values l)

  pub all-map_values : (P : ℕ → A → Type 0) (Q : ℕ → B → Type 0) (l : List (Entry A)) → ((o : ℕ) (v : A) → P o v → Q o (f v)) → All P l → All Q (map_values f l)
  all-map_values P Q [] h a = tt
  all-map_values P Q (e ∷ l) h a = (h e.key e.value a.0, all-map_values P Q l h a.1)
