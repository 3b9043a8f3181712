-- The count of an offset is that of its lease, or else its carried one; and the list of all counts, which a checkpoint stores, is
-- sorted, short enough and of unsettled offsets. Both go by what the leases make of the carried counts: look-ups after `raise_all`.
-- Assumes nothing.
use Prim.Native.Nat.{ℕ, suc, ◌+◌, ◌≤◌, max}
use native.Mathlib.Omega.{arith}
use mathlib.Core.Path.{◌≡◌, refl, sym, ap, ◌∙◌}
use mathlib.Core.Bool.{true, false, true≢false}
use mathlib.Core.List.{List, [], ◌∷◌}
use mathlib.Core.Option.{Option, none, some, none-ne-some}
use lib.Dec.{eqb}
use lib.ListN.{length}
use borrow.Author.Tests.{eqb-true}
use Rattle.types.specs.Limits.{MAX, MAX32, PAIRS, sat32}
use Rattle.types.specs.Keyed.{Entry, lookup, put, Rising, All, map_values}
use Rattle.types.proofs.Cases.{split}
use Rattle.types.proofs.Keyed.{lookup-put-same, lookup-put-other, lookup-under, rising-put, length-put, all-put, all-of-lookup, lookup-all}
use Rattle.types.proofs.Entries.{absent, all_imply}
use Rattle.cursor.specs.Cursor.{settled}
use Rattle.attempt.specs.Snapshot.{PairsFit}
use Rattle.lease.specs.declared.Lease.{Lease}
use Rattle.lease.specs.State.{Counted}
use Rattle.lease.specs.Operations.{lease_of, times_handed_out, next_count}
use Rattle.lease.specs.Rest.{deliveries_of}
use Rattle.lease.specs.Counts.{raise_all, all_attempt_counts}
use Rattle.consumer.specs.State.{State, count_or0}
use Rattle.consumer.specs.Questions.{count_of}
use Rattle.consumer.specs.Valid.{Valid}

-- a lease that has no count is none
pub no-lease : (x : Option Lease) → deliveries_of x ≡ none → x ≡ none
no-lease none e = refl
no-lease (some l) e = absurd (none-ne-some l.deliveries (sym e))

-- ## What the leases make of the carried counts
-- the carried counts raised to those of leases
abbrev raised : List (Entry Lease) → List (Entry ℕ) → List (Entry ℕ)
raised l c = raise_all (map_values (λ x. x.deliveries) l) c

-- the count of an offset with this lease and this carried count: the larger where it has both
abbrev merged : Option Lease → Option ℕ → Option ℕ
merged none c = c
merged (some l) c = some (max (count_or0 c) l.deliveries)

raised-lookup : (lo o : ℕ) (l : List (Entry Lease)) (c : List (Entry ℕ)) → Rising lo l → lookup o (raised l c) ≡ merged (lookup o l) (lookup o c)
raised-lookup lo o [] c r = refl
raised-lookup lo o (e ∷ l) c r =
    let n = max (count_or0 (lookup e.key c)) e.value.deliveries in
    raised-lookup (suc e.key) o l (put e.key n c) r.1
    ∙ split (eqb o e.key)
    (λ q. rw (q, eqb-true o e.key q, lookup-under (suc e.key) e.key l r.1 (omega arith), lookup-put-same e.key n c))
    (λ q. rw (q, lookup-put-other o e.key n c q))

raised-rising : (l : List (Entry Lease)) (c : List (Entry ℕ)) → Rising 0 c → Rising 0 (raised l c)
raised-rising [] c r = r
raised-rising (e ∷ l) c r =
    let n = max (count_or0 (lookup e.key c)) e.value.deliveries in
    raised-rising l (put e.key n c) (rising-put 0 e.key n c (omega arith) r)

raised-length : (l : List (Entry Lease)) (c : List (Entry ℕ)) → length (raised l c) ≤ length l + length c
raised-length [] c = omega arith
raised-length (e ∷ l) c =
    let n = max (count_or0 (lookup e.key c)) e.value.deliveries in
    omega (arith, raised-length l (put e.key n c), length-put e.key n c)

-- what holds of each lease's count, of each carried one, and of the larger of the two
module _ (P : ℕ → ℕ → Type 0) (larger : (o m n : ℕ) → P o m → P o n → P o (max m n)) (only : (o n : ℕ) → P o n → P o (max 0 n)) where
  raised-one : (o n : ℕ) (x : Option ℕ) → ((m : ℕ) → x ≡ some m → P o m) → P o n → P o (max (count_or0 x) n)
  raised-one o n none h p = only o n p
  raised-one o n (some m) h p = larger o m n (h m refl) p

  raised_all : (l : List (Entry Lease)) (c : List (Entry ℕ)) → All (λ o v. P o v.deliveries) l → All P c → All P (raised l c)
  raised_all [] c a b = b
  raised_all (e ∷ l) c a b =
      let n = max (count_or0 (lookup e.key c)) e.value.deliveries in
      raised_all l (put e.key n c) a.1
      (all-put P e.key n c (raised-one e.key e.value.deliveries (lookup e.key c) (λ m q. lookup-all P e.key m c b q) a.0) b)

-- ## The count of an offset
module _ (s : State) (v : Valid s) where
  pub count-is : (o : ℕ) → count_of s o ≡ times_handed_out (lease_of s.table o) (lookup o s.table.carried)
  unfolding all_attempt_counts
  count-is o =
      ap count_or0 (raised-lookup 0 o s.table.leases s.table.carried v.table.rising)
      ∙ go (lease_of s.table o) (lookup o s.table.carried) (λ l e. (v.leased o l e).alone)
    where
      go : (x : Option Lease) (y : Option ℕ) → ((l : Lease) → x ≡ some l → y ≡ none) → count_or0 (merged x y) ≡ times_handed_out x y
      go none none alone = refl
      go none (some n) alone = refl
      go (some l) y alone = rw (alone l refl) (omega arith)

  pub lease-count : (o : ℕ) (l : Lease) → lease_of s.table o ≡ some l → count_of s o ≡ l.deliveries
  lease-count o l e = count-is o ∙ rw e

  pub carried-count : (o n : ℕ) → lookup o s.table.carried ≡ some n → count_of s o ≡ n
  carried-count o n e = count-is o ∙ go (lease_of s.table o) refl
    where
      go : (x : Option Lease) → lease_of s.table o ≡ x → times_handed_out x (lookup o s.table.carried) ≡ n
      go none q = rw e
      go (some l) q = absent (v.leased o l q).alone e

  pub settled-count : (o : ℕ) → settled s.cursor o ≡ true → count_of s o ≡ 0
  settled-count o t = count-is o ∙ go (lease_of s.table o) (lookup o s.table.carried) refl refl
    where
      go : (x : Option Lease) (y : Option ℕ) → lease_of s.table o ≡ x → lookup o s.table.carried ≡ y → times_handed_out x y ≡ 0
      go none none e f = refl
      go none (some n) e f = absurd (true≢false (sym t ∙ v.carried o n f))
      go (some l) y e f = absurd (true≢false (sym t ∙ (v.leased o l e).unsettled))

  pub next-count : (o : ℕ) → next_count s.table o ≡ sat32 (count_of s o) 1
  next-count o = rw (count-is o)

  -- ## All counts
  abbrev Unsettled : ℕ → ℕ → Type 0
  Unsettled o n = Counted o n × (settled s.cursor o ≡ false)

  counts_all : All Unsettled (all_attempt_counts s.table)
  unfolding all_attempt_counts
  counts_all =
      raised_all Unsettled
      (λ o m n h k. (record { offset-fits = h.0.offset-fits; once = omega (arith, h.0.once); count_fits = omega (arith, h.0.count_fits, k.0.count_fits) }, h.1))
      (λ o n h. (record { offset-fits = h.0.offset-fits; once = omega (arith, h.0.once); count_fits = omega (arith, h.0.count_fits) }, h.1))
      s.table.leases
      s.table.carried
      (all-of-lookup (λ o l. Unsettled o l.deliveries) 0 s.table.leases v.table.rising
      (λ o l e. (lookup-all (λ k m. Counted k m.deliveries) o l s.table.leases v.table.counted e, (v.leased o l e).unsettled)))
      (all-of-lookup Unsettled 0 s.table.carried v.table.carried-rising
      (λ o n e. (lookup-all Counted o n s.table.carried v.table.carried-counted e, v.carried o n e)))

  pub counts-rising : Rising 0 (all_attempt_counts s.table)
  unfolding all_attempt_counts
  counts-rising = raised-rising s.table.leases s.table.carried v.table.carried-rising

  pub counts-few : length (all_attempt_counts s.table) ≤ PAIRS
  unfolding all_attempt_counts
  counts-few = omega (arith, raised-length s.table.leases s.table.carried, v.together)

  pub counts-counted : All Counted (all_attempt_counts s.table)
  counts-counted = all_imply Unsettled Counted (all_attempt_counts s.table) (λ o n h. h.0) counts_all

  -- they fit the fields of a snapshot
  pub counts-fit : PairsFit (all_attempt_counts s.table)
  counts-fit =
      all_imply Counted (λ o n. (o ≤ MAX) × (n ≤ MAX32)) (all_attempt_counts s.table) (λ o n h. (h.offset-fits, h.count_fits)) counts-counted

  pub counts-unsettled : All (λ o n. settled s.cursor o ≡ false) (all_attempt_counts s.table)
  counts-unsettled =
      all_imply Unsettled (λ o n. settled s.cursor o ≡ false) (all_attempt_counts s.table) (λ o n h. h.1) counts_all
