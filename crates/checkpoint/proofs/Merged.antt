-- Two lists of counts that have no key in common: the next of them merged, how many they are, and that a consumer's are such lists. Assumes
-- nothing.
use Prim.Native.Nat.{ℕ, zero, suc, ◌+◌, ◌-◌, ◌≤◌, ◌<◌}
use native.Mathlib.Omega.{arith}
use mathlib.Core.Path.{◌≡◌, refl, sym, ap, ◌∙◌}
use mathlib.Core.List.{List, [], ◌∷◌}
use mathlib.Core.Option.{Option, none, some, map, none-ne-some}
use lib.Dec.{ltb, eqb}
use lib.ListN.{length, drop, get_or, length-drop}
use lib.Seq.{take_all}
use borrow.Author.Tests.{lt-ltb, le-ltb, ne_eqb, eq-eqb}
use Rattle.types.specs.Keyed.{Entry, entry, lookup}
use Rattle.types.proofs.Cases.{split}
use Rattle.types.proofs.Keyed.{lookup-map_values}
use Rattle.types.proofs.Columns.{length-used, drop-used, drop-unused}
use Rattle.tables.specs.Merge.{merge_entry, merge}
use Rattle.tables.specs.Slots.{through}
use Rattle.tables.proofs.Slots.{through-length}
use Rattle.lease.specs.State.{leases_of, carried_of}
use Rattle.lease.specs.Counts.{attempt_counts, all_attempt_counts}
use Rattle.lease.specs.Parts.{Full}
use Rattle.lease.specs.declared.Lease.{Lease}
use Rattle.lease.proofs.Lists.{counts-listed}
use Rattle.lease.proofs.Merge.{all-counted}
use Rattle.consumer.specs.View.{view, Sound}
use Rattle.consumer.specs.declared.Consumer.{Consumer}
use Rattle.checkpoint.specs.Counts.{counted, Apart, Listed, Slotted, next_count, NextIs}

-- ## apart
-- the first of two such lists differ
heads_apart : (e c : Entry ℕ) (k l : List (Entry ℕ)) → Apart (e ∷ k) (c ∷ l) → e.key ≡ c.key → ⊥
heads_apart e c k l h q = h e.key e.value c.value (rw (eq-eqb e.key e.key refl)) (rw (eq-eqb e.key c.key q))

-- what a part has, the whole has
there : (o m : ℕ) (e : Entry ℕ) (k : List (Entry ℕ)) → lookup o k ≡ some m → (n : ℕ) × (lookup o (e ∷ k) ≡ some n)
there o m e k h = split (eqb o e.key) (λ q. (e.value, rw q)) (λ q. (m, rw q h))

apart-left : (e : Entry ℕ) (k l : List (Entry ℕ)) → Apart (e ∷ k) l → Apart k l
apart-left e k l h o m n p q = let t = there o m e k p in h o t.0 n t.1 q

apart-right : (c : Entry ℕ) (k l : List (Entry ℕ)) → Apart k (c ∷ l) → Apart k l
apart-right c k l h o m n p q = let t = there o n c l q in h o m t.0 p t.1

drop-left : (i : ℕ) (k l : List (Entry ℕ)) → Apart k l → Apart (drop i k) l
drop-left zero k l h = h
drop-left (suc i) [] l h = h
drop-left (suc i) (e ∷ k) l h = drop-left i k l (apart-left e k l h)

drop-right : (j : ℕ) (k l : List (Entry ℕ)) → Apart k l → Apart k (drop j l)
drop-right zero k l h = h
drop-right (suc j) k [] h = h
drop-right (suc j) k (c ∷ l) h = drop-right j k l (apart-right c k l h)

pub apart_dropped : (i j : ℕ) (k l : List (Entry ℕ)) → Apart k l → Apart (drop i k) (drop j l)
apart_dropped i j k l h = drop-right j (drop i k) l (drop-left i k l h)

-- ## merged
-- they are as many as both are together
length-entry : (e : Entry ℕ) (k l : List (Entry ℕ)) → Apart (e ∷ k) l → ((m : List (Entry ℕ)) → Apart k m → length (merge k m) ≡ length k + length m)
    → length (merge_entry e (merge k) l) ≡ suc (length k + length l)
length-entry e k [] h ih = ap suc (ih [] (apart-left e k [] h))
length-entry e k (c ∷ l) h ih =
    split (ltb e.key c.key)
    (λ p. rw p (ap suc (ih (c ∷ l) (apart-left e k (c ∷ l) h))))
    (λ p. rw (p, ne_eqb e.key c.key (heads_apart e c k l h)) (omega (arith, length-entry e k l (apart-right c (e ∷ k) l h) ih)))

pub merge-length : (k l : List (Entry ℕ)) → Apart k l → length (merge k l) ≡ length k + length l
merge-length [] l h = omega arith
merge-length (e ∷ k) l h = omega (arith, length-entry e k l h (λ m a. merge-length k m a))

-- the next of them
module _ (k l : List (Entry ℕ)) where
  pub leased-alone : (o n : ℕ) (k' : List (Entry ℕ)) → k ≡ entry o n ∷ k' → l ≡ [] → NextIs k l (next_count o n 1 0)
  leased-alone o n k' p q = rw (p, q) (record { is = refl; one = refl; left = omega arith; right = omega arith })

  pub carried-alone : (o n : ℕ) (l' : List (Entry ℕ)) → k ≡ [] → l ≡ entry o n ∷ l' → NextIs k l (next_count o n 0 1)
  carried-alone o n l' p q = rw (p, q) (record { is = refl; one = refl; left = omega arith; right = omega arith })

  module _ (o n o' n' : ℕ) (k' l' : List (Entry ℕ)) (p : k ≡ entry o n ∷ k') (q : l ≡ entry o' n' ∷ l') where
    pub leased-first : o < o' → NextIs k l (next_count o n 1 0)
    leased-first h = rw (p, q) (record { is = rw (lt-ltb o o' h); one = refl; left = omega arith; right = omega arith })

    pub carried_first : o' ≤ o → Apart k l → NextIs k l (next_count o' n' 0 1)
    carried_first h a =
        let other = heads_apart (entry o n) (entry o' n') k' l' (rw (p, q) at a) in
        rw (p, q) (record { is = rw (le-ltb o o' h, ne_eqb o o' other); one = refl; left = omega arith; right = omega arith })

-- ## the next of two columns each
module _ {n m : ℕ} {ks vs cks cvs : List ℕ} (p : Listed n m ks vs cks cvs) (i j : ℕ) where
  abbrev left : List (Entry ℕ)
  left = drop i (counted n ks vs)

  abbrev right : List (Entry ℕ)
  right = drop j (counted m cks cvs)

  no-lease : n ≤ i → left ≡ []
  no-lease = drop-unused 0 n ks vs (omega (arith, p.few, p.offsets)) (omega (arith, p.few, p.counts)) i

  a-lease : i < n → left ≡ entry (get_or ks i 0) (get_or vs i 0) ∷ drop (i + 1) (counted n ks vs)
  a-lease = drop-used 0 n ks vs (omega (arith, p.few, p.offsets)) (omega (arith, p.few, p.counts)) i

  no-count : m ≤ j → right ≡ []
  no-count = drop-unused 0 m cks cvs (omega (arith, p.carried-few, p.carried-offsets)) (omega (arith, p.carried-few, p.carried-counts)) j

  a-count : j < m → right ≡ entry (get_or cks j 0) (get_or cvs j 0) ∷ drop (j + 1) (counted m cks cvs)
  a-count = drop-used 0 m cks cvs (omega (arith, p.carried-few, p.carried-offsets)) (omega (arith, p.carried-few, p.carried-counts)) j

  pub next-carried-alone : n ≤ i → j < m → NextIs left right (next_count (get_or cks j 0) (get_or cvs j 0) 0 1)
  next-carried-alone h g = carried-alone left right _ _ _ (no-lease h) (a-count g)

  pub next-leased-alone : i < n → m ≤ j → NextIs left right (next_count (get_or ks i 0) (get_or vs i 0) 1 0)
  next-leased-alone h g = leased-alone left right _ _ _ (a-lease h) (no-count g)

  pub next-leased : i < n → j < m → get_or ks i 0 < get_or cks j 0 → NextIs left right (next_count (get_or ks i 0) (get_or vs i 0) 1 0)
  next-leased h g = leased-first left right _ _ _ _ _ _ (a-lease h) (a-count g)

  pub next-carried : i < n → j < m → get_or cks j 0 ≤ get_or ks i 0 → NextIs left right (next_count (get_or cks j 0) (get_or cvs j 0) 0 1)
  next-carried h g below = carried_first left right _ _ _ _ _ _ (a-lease h) (a-count g) below (apart_dropped i j (counted n ks vs) (counted m cks cvs) p.apart)

  -- how many are left of each
  pub leases-left : length left + i ≡ n + (i - n)
  leases-left =
      let all = length-used 0 n ks vs (omega (arith, p.few, p.offsets)) (omega (arith, p.few, p.counts)) in
      simp length-drop (omega (arith, all))

  pub counts-left : length right + j ≡ m + (j - m)
  counts-left =
      let all = length-used 0 m cks cvs (omega (arith, p.carried-few, p.carried-offsets)) (omega (arith, p.carried-few, p.carried-counts)) in
      simp length-drop (omega (arith, all))

  pub none_left : n ≤ i → m ≤ j → merge left right ≡ []
  none_left h g = rw (no-lease h, no-count g)

-- they are as many as was said
pub listed-length : {n m : ℕ} {ks vs cks cvs : List ℕ} → Listed n m ks vs cks cvs → length (merge (counted n ks vs) (counted m cks cvs)) ≡ n + m
listed-length {n} {m} {ks} {vs} {cks} {cvs} p =
    omega (
      arith,
      merge-length (counted n ks vs) (counted m cks cvs) p.apart,
      length-used 0 n ks vs (omega (arith, p.few, p.offsets)) (omega (arith, p.few, p.counts)),
      length-used 0 m cks cvs (omega (arith, p.carried-few, p.carried-offsets)) (omega (arith, p.carried-few, p.carried-counts)),
    )

-- ## a consumer's counts
module _ (c : Consumer) (full : Full c.table) (s : Sound c) where
  abbrev ours : List (Entry ℕ)
  ours = counted c.table.len c.table.offsets (through 0 c.table.slots c.table.deliveries)

  ours_are : ours ≡ attempt_counts (view c).table
  ours_are = counts-listed c.table full c.table.offsets (through 0 c.table.slots c.table.deliveries) refl refl

  apart : Apart ours (carried_of c.table)
  apart o m n p q = held (lookup o (leases_of c.table)) refl (sym (lookup-map_values (λ (l : Lease). l.deliveries) o (leases_of c.table)) ∙ ap (lookup o) (sym ours_are) ∙ p)
    where
      held : (x : Option Lease) → lookup o (leases_of c.table) ≡ x → map (λ (l : Lease). l.deliveries) (lookup o (leases_of c.table)) ≡ some m → ⊥
      held none e t = none-ne-some m (rw e at t)
      held (some l) e t = none-ne-some n (sym (s.valid.leased o l e).alone ∙ q)

  pub listed : Listed c.table.len c.table.carried_len c.table.offsets (through 0 c.table.slots c.table.deliveries) c.table.carried_offsets c.table.carried_counts
  listed =
      record {
        few = s.table.len;
        carried-few = s.table.carried-len;
        offsets = full.offsets;
        counts = through-length 0 c.table.slots c.table.deliveries ∙ full.slots;
        carried-offsets = full.carried-offsets;
        carried-counts = full.carried-counts;
        apart = apart;
      }

  pub slotted : Slotted c.table.slots
  slotted = record { all = full.slots; each = s.table.slots }

  pub both-counted : length (merge ours (carried_of c.table)) ≡ c.table.len + c.table.carried_len
  both-counted = listed-length listed

  pub counts-merged : merge ours (carried_of c.table) ≡ all_attempt_counts (view c).table
  counts-merged =
      sym (take_all 192 (merge ours (carried_of c.table)) (omega (arith, both-counted, s.table.len, s.table.carried-len)))
      ∙ all-counted c.table s.table ours ours_are
