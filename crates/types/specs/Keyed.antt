-- Lists of entries with a number as their key, sorted by it: what the Rust keeps in a map.
-- SPEC.md, "Forms".
use Rattle.std.specs.Prelude.{ℕ, suc, ◌≤◌, Bool, true, false, cond, List, [], ◌∷◌, ltb, eqb}
use Rattle.std.proofs.Math.Option.{Option, none, some}

pub record Entry (A : Type 0) : Type 0 where
  pub key : ℕ
  pub value : A

abbrev pub entry : {A : Type 0} → ℕ → A → Entry A
entry k v = record { key = k; value = v }

module _ {A : Type 0} where
  -- the value of a key
  abbrev pub lookup : ℕ → List (Entry A) → Option A
  lookup k [] = none
  lookup k (e ∷ l) = cond (eqb k e.key) (some e.value) (lookup k l)

  -- the key gets this value, in its place
  abbrev pub put : ℕ → A → List (Entry A) → List (Entry A)
  put k v [] = entry k v ∷ []
  put k v (e ∷ l) = cond (ltb k e.key) (entry k v ∷ e ∷ l) (cond (eqb k e.key) (entry k v ∷ l) (e ∷ put k v l))

  -- the value of the key changed in its place, where there is one
  abbrev pub update : ℕ → (A → A) → List (Entry A) → List (Entry A)
  update k f [] = []
  update k f (e ∷ l) = cond (eqb k e.key) (entry e.key (f e.value) ∷ l) (e ∷ update k f l)

  -- without the key
  abbrev pub delete : ℕ → List (Entry A) → List (Entry A)
  delete k [] = []
  delete k (e ∷ l) = cond (eqb k e.key) (delete k l) (e ∷ delete k l)

  -- without the keys below a bound
  abbrev pub drop_below : ℕ → List (Entry A) → List (Entry A)
  drop_below b [] = []
  drop_below b (e ∷ l) = cond (ltb e.key b) (drop_below b l) (e ∷ drop_below b l)

  -- some key lies below a bound
  abbrev pub any_below : ℕ → List (Entry A) → Bool
  any_below b [] = false
  any_below b (e ∷ l) = cond (ltb e.key b) true (any_below b l)

  -- sorted: the first key is at least lo, and each later one above the one before
  abbrev pub Rising : ℕ → List (Entry A) → Type 0
  Rising lo [] = Unit {0}
  Rising lo (e ∷ l) = (lo ≤ e.key) × Rising (suc e.key) l

  -- every entry has the property
  abbrev pub All : (ℕ → A → Type 0) → List (Entry A) → Type 0
  All P [] = Unit {0}
  All P (e ∷ l) = P e.key e.value × All P l

  -- a column of keys and one of values, side by side
  abbrev pub entries : List ℕ → List A → List (Entry A)
  entries [] vs = []
  entries (k ∷ ks) [] = []
  entries (k ∷ ks) (v ∷ vs) = entry k v ∷ entries ks vs

-- every value changed
abbrev pub map_values : {A B : Type 0} → (A → B) → List (Entry A) → List (Entry B)
map_values f [] = []
map_values f (e ∷ l) = entry e.key (f e.value) ∷ map_values f l
