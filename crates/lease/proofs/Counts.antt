-- Laws of attempt counts: the list of all of them rises by offset, has one for each offset with a lease or a carried count,
-- the larger where it has both, and no others; pairs carried into a fresh table are the carried counts.
-- Assumes nothing.
use Prim.Native.Nat.{ℕ, suc, ◌+◌, ◌≤◌, ◌<◌, max}
use native.Mathlib.Omega.{arith}
use mathlib.Core.Path.{◌≡◌, refl, sym, ap, ◌∙◌}
use mathlib.Core.List.{List, [], ◌∷◌, ◌++◌, append-nil}
use mathlib.Core.Option.{Option, none, some, get_or}
use lib.Dec.{eqb}
use lib.ListN.{length}
use lib.Seq.{append_snoc}
use borrow.Author.Tests.{eqb-true, ne_eqb, le-leb, le-ltb}
use Rattle.types.specs.Limits.{sat32}
use Rattle.types.specs.Keyed.{Entry, entry, lookup, put, Rising, All}
use Rattle.types.proofs.Cases.{split}
use Rattle.types.proofs.Keyed.{lookup-put, lookup-under, lookup-map_values, lookup-all, rising-put, length-put, all-put, all-map_values, length-map_values, rising-map_values}
use Rattle.lease.specs.State.{Table, Valid, Counted}
use Rattle.redeliveries.specs.Counter.{after_grant}
use Rattle.lease.specs.Operations.{lease_of, next_count}
use Rattle.lease.specs.Rest.{deliveries_of}
use Rattle.lease.specs.Counts.{raise, raise_all, attempt_counts, all_attempt_counts, carry_all}
use Rattle.lease.specs.declared.Lease.{Lease}

-- ## all counts
raise-rising : (l c : List (Entry ℕ)) → Rising 0 c → Rising 0 (raise_all l c)
raise-rising [] c r = r
raise-rising (e ∷ l) c r = raise-rising l (raise e.key e.value c) (rising-put 0 e.key (max (get_or (lookup e.key c) 0) e.value) c (omega arith) r)

pub all-counts-rising : (t : Table) → Valid t → Rising 0 (all_attempt_counts t)
unfolding all_attempt_counts
all-counts-rising t v = raise-rising (attempt_counts t) t.carried v.carried-rising

raise-length : (l c : List (Entry ℕ)) → length (raise_all l c) ≤ length l + length c
raise-length [] c = omega arith
raise-length (e ∷ l) c =
    omega (arith, raise-length l (raise e.key e.value c), length-put e.key (max (get_or (lookup e.key c) 0) e.value) c)

pub all-counts-few : (t : Table) → length (all_attempt_counts t) ≤ length t.leases + length t.carried
unfolding all_attempt_counts
all-counts-few t = omega (arith, raise-length (attempt_counts t) t.carried, length-map_values (λ (l : Lease). l.deliveries) t.leases)

-- the count of an offset, from its lease and its carried count
abbrev pub larger : Option ℕ → Option ℕ → Option ℕ
larger none c = c
larger (some n) c = some (max (get_or c 0) n)

raise-lookup : (lo o : ℕ) (l c : List (Entry ℕ)) → Rising lo l → lookup o (raise_all l c) ≡ larger (lookup o l) (lookup o c)
raise-lookup lo o [] c r = refl
raise-lookup lo o (e ∷ l) c r =
    raise-lookup (suc e.key) o l (raise e.key e.value c) r.1 ∙ rw (lookup-put o e.key (max (get_or (lookup e.key c) 0) e.value) c)
    (split (eqb o e.key)
    (λ q. rw (q, eqb-true o e.key q, lookup-under (suc e.key) e.key l r.1 (omega arith)))
    (λ q. rw q))

pub all-counts-lookup : (t : Table) → Valid t → (o : ℕ) → lookup o (all_attempt_counts t) ≡ larger (deliveries_of (lease_of t o)) (lookup o t.carried)
unfolding all_attempt_counts
all-counts-lookup t v o =
    raise-lookup 0 o (attempt_counts t) t.carried (rising-map_values (λ (l : Lease). l.deliveries) 0 t.leases v.rising)
    ∙ ap (λ (x : Option ℕ). larger x (lookup o t.carried)) (lookup-map_values (λ (l : Lease). l.deliveries) o t.leases)

raise-counted : (l c : List (Entry ℕ)) → All Counted l → All Counted c → All Counted (raise_all l c)
raise-counted [] c a b = b
raise-counted (e ∷ l) c a b =
    raise-counted l (raise e.key e.value c) a.1
    (all-put Counted e.key (max (get_or (lookup e.key c) 0) e.value) c (raised (lookup e.key c) refl) b)
  where
    raised : (x : Option ℕ) → lookup e.key c ≡ x → Counted e.key (max (get_or x 0) e.value)
    raised none q = record { offset-fits = a.0.offset-fits; once = omega (arith, a.0.once); count_fits = omega (arith, a.0.count_fits) }
    raised (some n) q =
        let d : Counted e.key n = lookup-all Counted e.key n c b q in
        record { offset-fits = d.offset-fits; once = omega (arith, d.once); count_fits = omega (arith, d.count_fits, a.0.count_fits) }

pub all-counts-counted : (t : Table) → Valid t → All Counted (all_attempt_counts t)
unfolding all_attempt_counts
all-counts-counted t v =
    raise-counted (attempt_counts t) t.carried
    (all-map_values (λ (l : Lease). l.deliveries) (λ o l. Counted o l.deliveries) Counted t.leases (λ o l h. h) v.counted) v.carried-counted

-- ## counts carried into a table that has none
put_last : (x v : ℕ) (c : List (Entry ℕ)) → All (λ k n. k < x) c → put x v c ≡ c ++ (entry x v ∷ [])
put_last x v [] a = refl
put_last x v (e ∷ c) a =
    rw (le-ltb x e.key (omega (arith, a.0)), ne_eqb x e.key (λ q. omega (arith, a.0))) (ap (λ (l : List (Entry ℕ)). e ∷ l) (put_last x v c a.1))

carry-behind : (lo : ℕ) (ps c : List (Entry ℕ)) → Rising lo ps → All (λ o n. 1 ≤ n) ps → All (λ k n. k < lo) c → carry_all ps c ≡ c ++ ps
carry-behind lo [] c r a b = sym (append-nil c)
carry-behind lo (p ∷ ps) c r a b =
    rw (ne_eqb p.value 0 (λ q. omega (arith, a.0)), put_last p.key p.value c (raised p.key c r.0 b))
    (carry-behind (suc p.key) ps (c ++ (p ∷ [])) r.1 a.1 (last c (raised (suc p.key) c (omega (arith, r.0)) b)) ∙ append_snoc c p ps)
  where
    raised : (b₂ : ℕ) (l : List (Entry ℕ)) → lo ≤ b₂ → All (λ k n. k < lo) l → All (λ k n. k < b₂) l
    raised b₂ [] h u = tt
    raised b₂ (e ∷ l) h u = (omega (arith, u.0), raised b₂ l h u.1)

    last : (l : List (Entry ℕ)) → All (λ k n. k < suc p.key) l → All (λ k n. k < suc p.key) (l ++ (p ∷ []))
    last [] u = (omega arith, tt)
    last (e ∷ l) u = (u.0, last l u.1)

pub carry-fresh : (ps : List (Entry ℕ)) → Rising 0 ps → All (λ o n. 1 ≤ n) ps → carry_all ps [] ≡ ps
carry-fresh ps r a = carry-behind 0 ps [] r a tt

-- ## a grant of an offset that has a lease is a redelivery, and counts as one
pub regrant_counts : (t : Table) (o : ℕ) (l : Lease) → Valid t → lease_of t o ≡ some l → after_grant t.redeliveries (next_count t o) ≡ sat32 t.redeliveries 1
regrant_counts t o l v e =
    let d = lookup-all (λ k x. Counted k x.deliveries) o l t.leases v.counted e in
    rw (e, le-leb 2 (sat32 l.deliveries 1) (omega (arith, d.once)))
