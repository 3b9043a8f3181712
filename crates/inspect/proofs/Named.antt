-- Headers found and counted block by block, and the groups that they name; the greatest group that a header or a body names. Assumes
-- nothing.
use Prim.Native.Nat.{ℕ, zero, suc, ◌+◌, ◌-◌, ◌≤◌, ◌<◌, max}
use native.Mathlib.Omega.{arith}
use native.Mathlib.Decide.{ℕ_discrete}
use native.Mathlib.Numerals.{add-one}
use mathlib.Core.Path.{◌≡◌, refl, sym, ap, ◌∙◌}
use mathlib.Core.Bool.{true, false}
use mathlib.Core.List.{List, [], ◌∷◌}
use mathlib.Core.Option.{Option, none, some, none-ne-some}
use lib.ListN.{length}
use Rattle.types.proofs.Cases.{split, neither}
use Rattle.journal.specs.Area.{block_at, blocks}
use Rattle.journal.specs.Blocks.{group_of}
use Rattle.journal.specs.Sound.{has_header_kind, is_kind}
use Rattle.journal.specs.Walks.{any_header}
use Rattle.inspect.specs.Missed.{first_header, named, greatest, named_by, highest_from, highest_named}

module _ (a : List ℕ) where
  -- there is no first header just where the search of a restart finds none
  pub first_none : (m i : ℕ) → first_header a m i ≡ none → any_header a m i ≡ false
  unfolding first_header
  first_none zero i e = refl
  first_none (suc m) i e =
      split (has_header_kind (block_at a i))
      (λ t. let q : first_header a (suc m) i ≡ some i = rw t in absurd (none-ne-some i (sym e ∙ q)))
      (λ f. let q : first_header a (suc m) i ≡ first_header a m (suc i) = rw f in rw f (first_none m (suc i) (sym q ∙ e)))

  pub none_first : (m i : ℕ) → any_header a m i ≡ false → first_header a m i ≡ none
  unfolding first_header
  none_first zero i e = refl
  none_first (suc m) i e =
      let b = neither (has_header_kind (block_at a i)) (any_header a m (suc i)) e in
      rw b.0 (none_first m (suc i) b.1)

module _ (a : List ℕ) (e : ℕ) where
  -- the first header from block i on, below block e
  abbrev pub header_from : ℕ → Option ℕ
  header_from i = first_header a (e - i) i

  pub header-here : (i : ℕ) → i < e → has_header_kind (block_at a i) ≡ true → header_from i ≡ some i
  unfolding first_header
  header-here i l h =
      let q : e - i ≡ suc (e - (i + 1)) = omega arith in
      rw (q, h)

  pub header-later : (i : ℕ) → i < e → has_header_kind (block_at a i) ≡ false → header_from (i + 1) ≡ header_from i
  unfolding first_header
  header-later i l h =
      let q : e - i ≡ suc (e - (i + 1)) = omega arith in
      rw (q, h, add-one i)

  pub header_none : (i : ℕ) → e ≤ i → header_from i ≡ none
  unfolding first_header
  header_none i l =
      let q : e - i ≡ 0 = omega arith in
      rw q

  -- the groups named from block i on, below block e
  abbrev pub from : ℕ → List ℕ
  from i = named a (e - i) i

  from-header : (i : ℕ) → i < e → has_header_kind (block_at a i) ≡ true → from i ≡ group_of (block_at a i) ∷ from (i + 1)
  unfolding named
  from-header i l h =
      let q : e - i ≡ suc (e - (i + 1)) = omega arith in
      rw (q, h, add-one i)

  from-other : (i : ℕ) → i < e → has_header_kind (block_at a i) ≡ false → from i ≡ from (i + 1)
  unfolding named
  from-other i l h =
      let q : e - i ≡ suc (e - (i + 1)) = omega arith in
      rw (q, h, add-one i)

  from_end : (i : ℕ) → e ≤ i → from i ≡ []
  unfolding named
  from_end i l =
      let q : e - i ≡ 0 = omega arith in
      rw q

  -- up to block i, c headers are counted, and n is the greatest group that they name; ks are the groups of all
  pub record Tally (ks : List ℕ) (i c n : ℕ) : Type 0 where
    pub few : c ≤ i
    pub count : c + length (from i) ≡ length ks
    pub number : max n (greatest (from i)) ≡ greatest ks

  pub tally_none : (i : ℕ) → Tally (from i) i 0 0
  tally_none i = record { few = omega arith; count = omega arith; number = omega arith }

  pub tally_header : (ks : List ℕ) (i c n : ℕ) → Tally ks i c n → i < e → has_header_kind (block_at a i) ≡ true
      → Tally ks (i + 1) (c + 1) (max n (group_of (block_at a i)))
  tally_header ks i c n t l h =
      let q = from-header i l h in
      record {
        few = omega (arith, t.few);
        count = omega (arith, t.count, ap length q);
        number = omega (arith, t.number, ap greatest q);
      }

  pub tally_other : (ks : List ℕ) (i c n : ℕ) → Tally ks i c n → i < e → has_header_kind (block_at a i) ≡ false
      → Tally ks (i + 1) c n
  tally_other ks i c n t l h =
      let q = from-other i l h in
      record { few = omega (arith, t.few); count = rw (← q) t.count; number = rw (← q) t.number }

  pub tally_end : (ks : List ℕ) (i c n : ℕ) → Tally ks i c n → e ≤ i → (c ≡ length ks) × (n ≡ greatest ks)
  tally_end ks i c n t l =
      let q = from_end i l in
      (omega (arith, t.count, ap length q), omega (arith, t.number, ap greatest q))

-- ## the group that a block names
module _ (b : List ℕ) where
  pub named-header : has_header_kind b ≡ true → group_of b ≡ named_by b
  named-header h = rw h

  pub named-body : has_header_kind b ≡ false → is_kind 2 b ≡ true → group_of b ≡ named_by b
  named-body h k = rw (h, k)

  pub named_none : has_header_kind b ≡ false → is_kind 2 b ≡ false → 0 ≡ named_by b
  named_none h k = rw (h, k)

module _ (a : List ℕ) (e : ℕ) where
  -- the greatest one that is named from block i on, below block e
  abbrev highest_on : ℕ → ℕ
  highest_on i = highest_from a (e - i) i

  highest_next : (i : ℕ) → i < e → highest_on i ≡ max (named_by (block_at a i)) (highest_on (i + 1))
  unfolding highest_from
  highest_next i l =
      let q : e - i ≡ suc (e - (i + 1)) = omega arith in
      rw (q, add-one i)

  highest_none : (i : ℕ) → e ≤ i → highest_on i ≡ 0
  unfolding highest_from
  highest_none i l =
      let q : e - i ≡ 0 = omega arith in
      rw q

  -- n is the greatest one up to block i
  abbrev pub HighestTo : ℕ → ℕ → Type 0
  HighestTo n i = max n (highest_from a (e - i) i) ≡ highest_from a e 0

  pub highest_begins : HighestTo 0 0
  highest_begins =
      let q : e - 0 ≡ e = omega arith in
      omega (arith, ap (λ m. highest_from a m 0) q)

  pub highest_on_lem : (n n' i : ℕ) → HighestTo n i → i < e → n' ≡ max n (named_by (block_at a i)) → HighestTo n' (i + 1)
  highest_on_lem n n' i h l q = omega (arith, h, q, highest_next i l)

  pub highest_ends : (n i m : ℕ) → HighestTo n i → e ≤ i → e ≡ m → n ≡ highest_from a m 0
  highest_ends n i m h l q = omega (arith, h, highest_none i l, ap (λ k. highest_from a k 0) q)

-- ## the greatest group of an area
module _ (a : List ℕ) where
  highest_within : (m i k : ℕ) → ((j : ℕ) → i ≤ j → j < i + m → named_by (block_at a j) ≤ k) → highest_from a m i ≤ k
  unfolding highest_from
  highest_within zero i k h = omega arith
  highest_within (suc m) i k h =
      omega (arith, h i (omega arith) (omega arith), highest_within m (suc i) k (λ j l u. h j (omega arith) (omega arith)))

  highest_over : (m i j : ℕ) → i ≤ j → j < i + m → named_by (block_at a j) ≤ highest_from a m i
  unfolding highest_from
  highest_over zero i j l u = absurd (omega arith)
  highest_over (suc m) i j l u =
      elim (ℕ_discrete j i) [
        | yes q ↦ rw q (omega arith)
        | no q ↦ omega (arith, highest_over m (suc i) j (omega arith) (omega arith))
      ]

  -- it is at most k where every block names a group that is, and no block names a greater one
  pub named-at-most : (k : ℕ) → ((j : ℕ) → j < blocks a → named_by (block_at a j) ≤ k) → highest_named a ≤ k
  named-at-most k h = highest_within (blocks a) 0 k (λ j l u. h j (omega arith))

  pub named-below_highest : (j : ℕ) → j < blocks a → named_by (block_at a j) ≤ highest_named a
  named-below_highest j l = highest_over (blocks a) 0 j (omega arith) (omega arith)
