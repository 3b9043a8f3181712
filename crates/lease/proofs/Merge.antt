-- Two sorted lists of counts merged in one pass give what raising the one by each entry of the other gives.
-- Assumes nothing.
use Prim.Native.Nat.{ℕ, suc, max, ◌<◌}
use native.Mathlib.Omega.{arith}
use native.Mathlib.Decide.{dec_lt, ℕ_discrete}
use mathlib.Core.Path.{◌≡◌, refl, sym, ap, ◌∙◌}
use mathlib.Core.List.{List, [], ◌∷◌}
use mathlib.Core.Option.{Option, none, get_or}
use lib.ListN.{take}
use lib.Seq.{take_all}
use borrow.Author.Tests.{lt-ltb, le-ltb, eq-eqb, ne_eqb}
use Rattle.types.specs.Keyed.{Entry, entry, lookup, put, Rising}
use Rattle.types.proofs.Keyed.{rising-weaken, lookup-under, rising-map_values}
use Rattle.tables.specs.Merge.{merge_entry, merge}
use Rattle.lease.specs.State.{Table, Valid, Sound, view, carried_of}
use Rattle.lease.specs.Counts.{raise, raise_all, attempt_counts, all_attempt_counts}
use Rattle.lease.specs.declared.Lease.{Lease}
use Rattle.lease.specs.declared.LeaseTable.{LeaseTable}
use Rattle.lease.proofs.Counts.{all-counts-few}

-- ## the merged list
-- an entry of a smaller offset is no matter to a raise
past-lookup : (c : Entry ℕ) (o : ℕ) (l : List (Entry ℕ)) → c.key < o → lookup o (c ∷ l) ≡ lookup o l
past-lookup c o l h = rw (ne_eqb o c.key (λ q. omega arith))

past-raise : (c : Entry ℕ) (o n : ℕ) (l : List (Entry ℕ)) → c.key < o → raise o n (c ∷ l) ≡ c ∷ raise o n l
past-raise c o n l h =
    rw (le-ltb o c.key (omega arith), ne_eqb o c.key (λ q. omega arith)) (ap (λ (x : Option ℕ). c ∷ put o (max (get_or x 0) n) l) (past-lookup c o l h))

-- an entry below all of a list stays in front
raise-past : (c : Entry ℕ) (k l : List (Entry ℕ)) → Rising (suc c.key) k → raise_all k (c ∷ l) ≡ c ∷ raise_all k l
raise-past c [] l r = refl
raise-past c (e ∷ k) l r =
    ap (raise_all k) (past-raise c e.key e.value l (omega (arith, r.0)))
    ∙ raise-past c k (raise e.key e.value l) (rising-weaken (suc c.key) (suc e.key) k (omega (arith, r.0)) r.1)

-- one entry merged is one entry raised
merge-entry : (lo : ℕ) (e : Entry ℕ) (k l : List (Entry ℕ)) → Rising (suc e.key) k → Rising lo l
    → ((m : List (Entry ℕ)) (low : ℕ) → Rising low m → merge k m ≡ raise_all k m) → merge_entry e (merge k) l ≡ raise_all k (raise e.key e.value l)
merge-entry lo e k [] r s ih =
    let z : max 0 e.value ≡ e.value = omega arith in
    rw (z, raise-past e k [] r) (ap (λ (t : List (Entry ℕ)). e ∷ t) (ih [] 0 tt))
merge-entry lo e k (c ∷ l) r s ih =
    elim (dec_lt e.key c.key) [
      | yes h ↦ let z : max 0 e.value ≡ e.value = omega arith in
          let n : lookup e.key l ≡ none = lookup-under (suc c.key) e.key l s.1 (omega arith) in
          rw (lt-ltb e.key c.key h, ne_eqb e.key c.key (λ q. omega arith), n, z) (ap (λ (t : List (Entry ℕ)). e ∷ t) (ih (c ∷ l) lo s) ∙ sym (raise-past e k (c ∷ l) r))
      | no h ↦ elim (ℕ_discrete e.key c.key) [
        | yes q ↦ rw (le-ltb e.key c.key (omega arith), eq-eqb e.key c.key q)
            (ap (λ (t : List (Entry ℕ)). entry e.key (max c.value e.value) ∷ t) (ih l (suc c.key) s.1) ∙ sym (raise-past (entry e.key (max c.value e.value)) k l r))
        | no q ↦
            let p : c.key < e.key = omega arith in
            let one : merge_entry e (merge k) (c ∷ l) ≡ c ∷ merge_entry e (merge k) l = rw (le-ltb e.key c.key (omega arith), ne_eqb e.key c.key q) refl in
            one ∙ ap (λ (t : List (Entry ℕ)). c ∷ t) (merge-entry (suc c.key) e k l r s.1 ih)
            ∙ sym (raise-past c k (raise e.key e.value l) (rising-weaken (suc c.key) (suc e.key) k (omega arith) r))
            ∙ ap (raise_all k) (sym (past-raise c e.key e.value l p))
      ]
    ]

pub merge-raise : (lo low : ℕ) (k l : List (Entry ℕ)) → Rising lo k → Rising low l → merge k l ≡ raise_all k l
merge-raise lo low [] l r s = refl
merge-raise lo low (e ∷ k) l r s = merge-entry low e k l r.1 s (λ m n h. merge-raise (suc e.key) n k m r.1 h)

-- ## the list of a table
-- the leases' counts merged with the carried ones
all-merged : (t : Table) → Valid t → merge (attempt_counts t) t.carried ≡ all_attempt_counts t
unfolding all_attempt_counts
all-merged t v = merge-raise 0 0 (attempt_counts t) t.carried (rising-map_values (λ (l : Lease). l.deliveries) 0 t.leases v.rising) v.carried-rising

-- they are 192 at most
pub all-counted : (t : LeaseTable) (ok : Sound t) (k : List (Entry ℕ)) → k ≡ attempt_counts (view t) → take 192 (merge k (carried_of t)) ≡ all_attempt_counts (view t)
all-counted t ok k e =
    rw (e, all-merged (view t) ok.valid) (take_all 192 (all_attempt_counts (view t)) (omega (arith, all-counts-few (view t), ok.valid.few, ok.valid.carried-few)))
