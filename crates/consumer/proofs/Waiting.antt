-- Laws of the order in which expired leases wait: it holds each as often as before, it is in order, and where the next lease comes in.
-- Assumes nothing.
use Prim.Native.Nat.{ℕ, zero, suc, ◌+◌, ◌-◌, ◌≤◌, ◌<◌}
use native.Mathlib.Omega.{arith}
use mathlib.Core.Path.{◌≡◌, refl, sym, ap, ◌∙◌}
use mathlib.Core.Bool.{true, false, cond, not, true≢false}
use mathlib.Core.List.{List, [], ◌∷◌, ◌++◌, append-nil}
use lib.Dec.{ltb, eqb}
use lib.ListN.{length, get_or}
use borrow.Author.Tests.{ltb-true, ltb-false, lt-ltb, le-ltb, eq-eqb, ne_eqb}
use Rattle.types.specs.Keyed.{Entry, entry, Rising, All}
use Rattle.types.specs.Lists.{times}
use Rattle.types.specs.Zipped.{inserted}
use Rattle.types.proofs.Cases.{split}
use Rattle.types.proofs.Keyed.{rising-weaken}
use Rattle.types.proofs.Entries.{all_imply}
use Rattle.tables.specs.Search.{Boundary}
use Rattle.lease.specs.declared.Lease.{Lease}
use Rattle.lease.specs.Rest.{expired_offsets}
use Rattle.consumer.specs.Questions.{keys_of}
use Rattle.consumer.specs.Waiting.{expired_deadlines, waits_longer, takes_place, longest_first}

-- ## which leases
expired_keys : (now : ℕ) (l : List (Entry Lease)) → keys_of (expired_deadlines now l) ≡ expired_offsets now l
expired_keys now [] = refl
expired_keys now (e ∷ l) =
    split (ltb now e.value.deadline) (λ q. rw q (expired_keys now l)) (λ q. rw q (ap (λ (k : List ℕ). e.key ∷ k) (expired_keys now l)))

expired-rising : (now lo : ℕ) (l : List (Entry Lease)) → Rising lo l → Rising lo (expired_deadlines now l)
expired-rising now lo [] r = tt
expired-rising now lo (e ∷ l) r =
    let rest = expired-rising now (suc e.key) l r.1 in
    split (ltb now e.value.deadline)
    (λ q. rw q (rising-weaken lo (suc e.key) (expired_deadlines now l) (omega (arith, r.0)) rest))
    (λ q. rw q (r.0, rest))

-- ## each as often as before
module _ (o : ℕ) where
  times-placed : (x : Entry ℕ) (l : List (Entry ℕ)) → times o (keys_of (takes_place x l)) ≡ cond (eqb o x.key) 1 0 + times o (keys_of l)
  times-placed x [] = refl
  times-placed x (y ∷ l) = split (waits_longer x y) (λ q. rw q) (λ q. rw q (omega (arith, times-placed x l)))

  times-ordered : (l : List (Entry ℕ)) → times o (keys_of (longest_first l)) ≡ times o (keys_of l)
  times-ordered [] = refl
  times-ordered (x ∷ l) = times-placed x (longest_first l) ∙ ap (λ (k : ℕ). cond (eqb o x.key) 1 0 + k) (times-ordered l)

  pub same_members : (now : ℕ) (l : List (Entry Lease)) → times o (keys_of (longest_first (expired_deadlines now l))) ≡ times o (expired_offsets now l)
  same_members now l = times-ordered (expired_deadlines now l) ∙ ap (times o) (expired_keys now l)

length-placed : (x : Entry ℕ) (l : List (Entry ℕ)) → length (keys_of (takes_place x l)) ≡ suc (length (keys_of l))
length-placed x [] = refl
length-placed x (y ∷ l) = split (waits_longer x y) (λ q. rw q) (λ q. rw q (ap suc (length-placed x l)))

length-ordered : (l : List (Entry ℕ)) → length (keys_of (longest_first l)) ≡ length (keys_of l)
length-ordered [] = refl
length-ordered (x ∷ l) = length-placed x (longest_first l) ∙ ap suc (length-ordered l)

pub same_length : (now : ℕ) (l : List (Entry Lease)) → length (keys_of (longest_first (expired_deadlines now l))) ≡ length (expired_offsets now l)
same_length now l = length-ordered (expired_deadlines now l) ∙ ap length (expired_keys now l)

-- ## in order
-- what holds of every lease holds of those in order
module _ (P : ℕ → ℕ → Type 0) where
  all_placed : (x : Entry ℕ) (l : List (Entry ℕ)) → P x.key x.value → All P l → All P (takes_place x l)
  all_placed x [] p a = (p, tt)
  all_placed x (y ∷ l) p a = split (waits_longer x y) (λ q. rw q (p, a)) (λ q. rw q (a.0, all_placed x l p a.1))

  pub all-ordered : (l : List (Entry ℕ)) → All P l → All P (longest_first l)
  all-ordered [] a = tt
  all-ordered (x ∷ l) a = all_placed x (longest_first l) a.0 (all-ordered l a.1)

rising-all : (lo : ℕ) (l : List (Entry ℕ)) → Rising lo l → All (λ k v. lo ≤ k) l
rising-all lo [] r = tt
rising-all lo (e ∷ l) r =
    (r.0, all_imply (λ k v. suc e.key ≤ k) (λ k v. lo ≤ k) l (λ k v h. omega (arith, h, r.0)) (rising-all (suc e.key) l r.1))

-- of two leases, by numbers
module _ (x y : Entry ℕ) where
  earlier : x.value < y.value → waits_longer x y ≡ true
  earlier h = rw (lt-ltb x.value y.value h)

  later : y.value < x.value → waits_longer x y ≡ false
  later h = rw (le-ltb x.value y.value (omega arith), ne_eqb x.value y.value (λ q. omega arith))

  no-later : waits_longer x y ≡ true → x.value ≤ y.value
  no-later h =
      split (ltb y.value x.value)
      (λ t. absurd (true≢false (sym h ∙ later (ltb-true y.value x.value t))))
      (λ t. ltb-false y.value x.value t)

  -- of one deadline the lower offset waits longer
  tie : x.value ≡ y.value → waits_longer x y ≡ ltb x.key y.key
  tie e = rw (le-ltb x.value y.value (omega arith), eq-eqb x.value y.value e)

  -- the lower offset waits longer unless its deadline is later
  module _ (k : x.key < y.key) where
    lower : x.value ≤ y.value → waits_longer x y ≡ true
    lower h =
        split (ltb x.value y.value)
        (λ t. rw t)
        (λ t. tie (omega (arith, ltb-false x.value y.value t)) ∙ lt-ltb x.key y.key k)

    not_longer : waits_longer x y ≡ false → y.value < x.value
    not_longer h =
        split (ltb y.value x.value)
        (λ t. ltb-true y.value x.value t)
        (λ t. absurd (true≢false (sym (lower (ltb-false y.value x.value t)) ∙ h)))

-- the higher one only where its deadline is earlier, so that of the two just one does
higher : (x y : Entry ℕ) → y.key < x.key → y.value ≤ x.value → waits_longer x y ≡ false
higher x y k h =
    split (ltb y.value x.value)
    (λ t. later x y (ltb-true y.value x.value t))
    (λ t. tie x y (omega (arith, ltb-false y.value x.value t)) ∙ le-ltb x.key y.key (omega arith))

just_one : (x y : Entry ℕ) → x.key < y.key → waits_longer y x ≡ not (waits_longer x y)
just_one x y k = split (waits_longer x y) (λ q. rw q (higher y x k (no-later x y q))) (λ q. rw q (earlier y x (not_longer x y k q)))

-- x longer than y and y longer than z is x longer than z
through : (x y z : Entry ℕ) → waits_longer x y ≡ true → waits_longer y z ≡ true → waits_longer x z ≡ true
through x y z p q =
    split (ltb x.value z.value)
    (λ t. rw t)
    (λ t.
    let e : x.value ≡ y.value = omega (arith, no-later x y p, no-later y z q, ltb-false x.value z.value t) in
    let f : y.value ≡ z.value = omega (arith, no-later y z q, ltb-false x.value z.value t) in
    let g = ltb-true x.key y.key (sym (tie x y e) ∙ p) in
    let h = ltb-true y.key z.key (sym (tie y z f) ∙ q) in
    tie x z (e ∙ f) ∙ lt-ltb x.key z.key (omega (arith, g, h)))

not-before : (x y z : Entry ℕ) → waits_longer y z ≡ true → waits_longer x z ≡ false → waits_longer x y ≡ false
not-before x y z q p = split (waits_longer x y) (λ t. absurd (true≢false (sym (through x y z t q) ∙ p))) (λ t. t)

-- each waits longer than all behind it
abbrev pub First : Entry ℕ → List (Entry ℕ) → Type 0
First x = All (λ k v. waits_longer x (entry k v) ≡ true)

abbrev pub Ordered : List (Entry ℕ) → Type 0
Ordered [] = Unit {0}
Ordered (x ∷ l) = First x l × Ordered l

module _ (x : Entry ℕ) where
  placed_in_order : (l : List (Entry ℕ)) → All (λ k v. x.key < k) l → Ordered l → Ordered (takes_place x l)
  placed_in_order [] a o = (tt, tt)
  placed_in_order (y ∷ l) a o =
      split (waits_longer x y)
      (λ q. rw q ((q, all_imply (λ k v. waits_longer y (entry k v) ≡ true) (λ k v. waits_longer x (entry k v) ≡ true) l (λ k v h. through x y (entry k v) q h) o.0), o))
      (λ q. rw q (all_placed (λ k v. waits_longer y (entry k v) ≡ true) x l (earlier y x (not_longer x y a.0 q)) o.0, placed_in_order l a.1 o.1))

ordered_in_order : (lo : ℕ) (l : List (Entry ℕ)) → Rising lo l → Ordered (longest_first l)
ordered_in_order lo [] r = tt
ordered_in_order lo (x ∷ l) r =
    placed_in_order x (longest_first l) (all-ordered (λ k v. x.key < k) l (rising-all (suc x.key) l r.1)) (ordered_in_order (suc x.key) l r.1)

pub in_order : (now lo : ℕ) (l : List (Entry Lease)) → Rising lo l → Ordered (longest_first (expired_deadlines now l))
in_order now lo l r = ordered_in_order lo (expired_deadlines now l) (expired-rising now lo l r)

-- what holds of every lease by its deadline holds of those that are expired
pub all-expired : (P : ℕ → ℕ → Type 0) (now : ℕ) (l : List (Entry Lease)) → All (λ o x. P o x.deadline) l → All P (expired_deadlines now l)
all-expired P now [] a = tt
all-expired P now (e ∷ l) a =
    split (ltb now e.value.deadline) (λ q. rw q (all-expired P now l a.1)) (λ q. rw q (a.0, all-expired P now l a.1))

-- ## where one comes in
-- the deadlines in their order
abbrev pub deadlines_of : List (Entry ℕ) → List ℕ
deadlines_of [] = []
deadlines_of (e ∷ l) = e.value ∷ deadlines_of l

pub keys_inserted : (at : ℕ) (x : Entry ℕ) (l : List (Entry ℕ)) → keys_of (inserted at x l) ≡ inserted at x.key (keys_of l)
keys_inserted zero x l = refl
keys_inserted (suc at) x [] = refl
keys_inserted (suc at) x (y ∷ l) = ap (λ (k : List ℕ). y.key ∷ k) (keys_inserted at x l)

pub deadlines-inserted : (at : ℕ) (x : Entry ℕ) (l : List (Entry ℕ)) → deadlines_of (inserted at x l) ≡ inserted at x.value (deadlines_of l)
deadlines-inserted zero x l = refl
deadlines-inserted (suc at) x [] = refl
deadlines-inserted (suc at) x (y ∷ l) = ap (λ (k : List ℕ). y.value ∷ k) (deadlines-inserted at x l)

boundary_before : (d at : ℕ) (vs : List ℕ) → Boundary d vs (suc at) → get_or vs at 0 < d
boundary_before d at vs b = let e : suc at - 1 ≡ at = omega arith in rw e at (b.before (omega arith))

boundary_rest : (d v at : ℕ) (vs : List ℕ) → Boundary d (v ∷ vs) (suc at) → Boundary d vs at
boundary_rest d v zero vs b = record { inside = omega arith; before = λ h. absurd (omega arith); behind = λ h. b.behind (omega arith) }
boundary_rest d v (suc at) vs b =
    let e : suc at - 1 ≡ at = omega arith in
    record { inside = omega (arith, b.inside); before = λ h. rw e (boundary_before d (suc at) (v ∷ vs) b); behind = λ h. b.behind (omega arith) }

-- the first deadline is no later than one behind it
first-deadline : (y : Entry ℕ) (l : List (Entry ℕ)) (at : ℕ) → First y l → at < length (deadlines_of l) → y.value ≤ get_or (deadlines_of l) at 0
first-deadline y [] at f h = absurd (omega arith)
first-deadline y (z ∷ l) zero f h = no-later y z f.0
first-deadline y (z ∷ l) (suc at) f h = first-deadline y l at f.1 (omega (arith, h))

before_boundary : (d at : ℕ) (y : Entry ℕ) (l : List (Entry ℕ)) → First y l → Boundary d (deadlines_of (y ∷ l)) (suc at) → y.value < d
before_boundary d zero y l f b = boundary_before d zero (deadlines_of (y ∷ l)) b
before_boundary d (suc at) y l f b =
    let h : get_or (deadlines_of l) at 0 < d = boundary_before d (suc at) (deadlines_of (y ∷ l)) b in
    omega (arith, first-deadline y l at f (omega (arith, b.inside)))

-- one of a higher offset than all comes in behind the deadlines that are not later
placed_at : (x : Entry ℕ) (at : ℕ) (l : List (Entry ℕ)) → All (λ k v. k < x.key) l → Ordered l → Boundary (x.value + 1) (deadlines_of l) at
    → takes_place x l ≡ inserted at x l
placed_at x zero [] a o b = refl
placed_at x (suc at) [] a o b = absurd (omega (arith, b.inside))
placed_at x zero (y ∷ l) a o b = rw (earlier x y (omega (arith, b.behind (omega arith))))
placed_at x (suc at) (y ∷ l) a o b =
    rw (higher x y a.0 (omega (arith, before_boundary (x.value + 1) at y l o.0 b)))
    (ap (λ (k : List (Entry ℕ)). y ∷ k) (placed_at x at l a.1 o.1 (boundary_rest (x.value + 1) y.value at (deadlines_of l) b)))

-- ## from the first on
-- two of different offsets take their places in either order
module _ (x y : Entry ℕ) (k : x.key < y.key) where
  either_first : (l : List (Entry ℕ)) → takes_place x (takes_place y l) ≡ takes_place y (takes_place x l)
  either_first [] = split (waits_longer x y) (λ q. rw (just_one x y k, q)) (λ q. rw (just_one x y k, q))
  either_first (z ∷ l) =
      split (waits_longer x z)
      (λ p. split (waits_longer y z)
      (λ q. split (waits_longer x y) (λ r. simp (p, q, just_one x y k, r)) (λ r. simp (p, q, just_one x y k, r)))
      (λ q. simp (p, q, not-before y x z p q)))
      (λ p. split (waits_longer y z)
      (λ q. simp (p, q, not-before x y z q p))
      (λ q. simp (p, q) (ap (λ (m : List (Entry ℕ)). z ∷ m) (either_first l))))

-- so the last one may take its place when all others have
last-placed : (x : Entry ℕ) (l : List (Entry ℕ)) → All (λ k v. k < x.key) l → longest_first (l ++ x ∷ []) ≡ takes_place x (longest_first l)
last-placed x [] a = refl
last-placed x (y ∷ l) a = ap (takes_place y) (last-placed x l a.1) ∙ either_first y x a.0 (longest_first l)

-- what comes before the last of a sorted list
rising-last : (lo : ℕ) (x : Entry ℕ) (l : List (Entry ℕ)) → Rising lo (l ++ x ∷ []) → (lo ≤ x.key) × Rising lo l × All (λ k v. k < x.key) l
rising-last lo x [] r = (r.0, tt, tt)
rising-last lo x (y ∷ l) r =
    let rest = rising-last (suc y.key) x l r.1 in
    (omega (arith, r.0, rest.0), (r.0, rest.1), (rest.0, rest.2))

expired-append : (now : ℕ) (l m : List (Entry Lease)) → expired_deadlines now (l ++ m) ≡ expired_deadlines now l ++ expired_deadlines now m
expired-append now [] m = refl
expired-append now (e ∷ l) m =
    split (ltb now e.value.deadline)
    (λ q. rw q (expired-append now l m))
    (λ q. rw q (ap (λ (k : List (Entry ℕ)). entry e.key e.value.deadline ∷ k) (expired-append now l m)))

-- a lease behind others, which runs or comes in
module _ (now : ℕ) (e : Entry Lease) (l : List (Entry Lease)) where
  pub stays_out : now < e.value.deadline → expired_deadlines now (l ++ e ∷ []) ≡ expired_deadlines now l
  stays_out h = expired-append now l (e ∷ []) ∙ rw (lt-ltb now e.value.deadline h) (append-nil (expired_deadlines now l))

  pub comes_in : (lo at : ℕ) → Rising lo (l ++ e ∷ []) → e.value.deadline ≤ now → Boundary (e.value.deadline + 1) (deadlines_of (longest_first (expired_deadlines now l))) at
      → longest_first (expired_deadlines now (l ++ e ∷ [])) ≡ inserted at (entry e.key e.value.deadline) (longest_first (expired_deadlines now l))
  comes_in lo at r h b =
      let x : Entry ℕ = entry e.key e.value.deadline in
      let known = expired_deadlines now l in
      let same : expired_deadlines now (l ++ e ∷ []) ≡ known ++ x ∷ [] = expired-append now l (e ∷ []) ∙ rw (le-ltb now e.value.deadline h) in
      let up = rising-last lo x known (rw same at (expired-rising now lo (l ++ e ∷ []) r)) in
      ap longest_first same
      ∙ last-placed x known up.2
      ∙ placed_at x at (longest_first known) (all-ordered (λ k v. k < x.key) known up.2) (ordered_in_order lo known up.1) b
