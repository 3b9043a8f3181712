-- Laws of a search by halving: its invariant, and that among numbers that rise the boundary is the number of those below.
-- Assumes nothing.
use Prim.Native.Nat.{ℕ, ◌-◌, ◌+◌, ◌≤◌, ◌<◌, min}
use native.Mathlib.Omega.{arith}
use mathlib.Core.Path.{◌≡◌, sym, ◌∙◌, subst}
use mathlib.Core.List.{List}
use lib.Dec.{ltb}
use lib.ListN.{length, take, get_or, length-take}
use lib.Seq.{get_or-take}
use borrow.Author.Tests.{ltb-true, ltb-false}
use Rattle.types.specs.Sorted.{Ascending, below}
use Rattle.types.proofs.Cases.{split}
use Rattle.types.proofs.Sorted.{below-le, before-place, not_before-place}
use Rattle.tables.specs.Search.{Boundary, Placed}
use Rattle.tables.specs.declared.Place.{Place}
use Rattle.tables.specs.declared.Place.TheVariants.{Found, Missing}

-- ## among numbers that rise
pub boundary_below : (x at lo : ℕ) (ks : List ℕ) → Ascending lo ks → Boundary x ks at → at ≡ below x ks
boundary_below x at lo ks a b =
    let low : at ≤ below x ks =
    split (ltb 0 at)
    (λ q. omega (arith, b.inside, ltb-true 0 at q, before-place x (at - 1) lo ks a (omega (arith, b.inside, ltb-true 0 at q)) (b.before (ltb-true 0 at q))))
    (λ q. omega (arith, ltb-false 0 at q)) in
    let high : below x ks ≤ at =
    split (ltb at (length ks))
    (λ q. not_before-place x at ks (ltb-true at (length ks) q) (b.behind (ltb-true at (length ks) q)))
    (λ q. omega (arith, below-le x ks, ltb-false at (length ks) q)) in
    omega (arith, low, high)

-- ## the loop
-- what lies before `low` is below x, as far as its last number tells, and what lies from `high` on is not, as far as its first one does
pub record Halving (x len : ℕ) (keys : List ℕ) (low high : ℕ) : Type 0 where
  pub order : low ≤ high
  pub used : high ≤ len
  pub there : high ≤ length keys
  pub before : 0 < low → get_or keys (low - 1) 0 < x
  pub behind : high < len → high < length keys → x ≤ get_or keys high 0

module _ (x len : ℕ) (keys : List ℕ) where
  pub halving : {high : ℕ} → high ≡ min len (length keys) → Halving x len keys 0 high
  halving e =
      record {
        order = omega arith;
        used = omega (arith, e);
        there = omega (arith, e);
        before = λ h. absurd (omega arith);
        behind = λ h k. absurd (omega (arith, e));
      }

  module _ {low high : ℕ} (inv : Halving x len keys low high) where
    pub halving_up : (mid : ℕ) → mid < high → get_or keys mid 0 < x → Halving x len keys (mid + 1) high
    halving_up mid h t =
        let e : mid + 1 - 1 ≡ mid = omega arith in
        record { order = omega arith; used = inv.used; there = inv.there; before = λ _. rw e t; behind = inv.behind }

    pub halving_down : (mid : ℕ) → low ≤ mid → mid < high → x ≤ get_or keys mid 0 → Halving x len keys low mid
    halving_down mid l h t =
        record {
          order = l;
          used = omega (arith, inv.used);
          there = omega (arith, inv.there);
          before = inv.before;
          behind = λ _ _. t;
        }

    pub halved : high ≤ low → Boundary x (take len keys) low
    halved h =
        let e : low ≡ high = omega (arith, inv.order) in
        record {
          inside = simp length-take (omega (arith, inv.used, inv.there));
          before = λ p. rw (get_or-take len keys (low - 1) 0 (omega (arith, inv.used))) (inv.before p);
          behind = λ p. let k : low < min len (length keys) = simp length-take at p in rw (get_or-take len keys low 0 (omega (arith, k)), e) (inv.behind (omega (arith, k)) (omega (arith, k)));
        }

  -- nothing is left to search where the last number is below x
  pub boundary_end : {at : ℕ} → at ≡ min len (length keys) → (0 < at → get_or keys (at - 1) 0 < x) → Boundary x (take len keys) at
  boundary_end {at} e h =
      let end : Halving x len keys at at =
      record { order = omega arith; used = omega (arith, e); there = omega (arith, e); before = h; behind = λ p q. absurd (omega (arith, e)) } in
      halved end (omega arith)

-- ## the number at the boundary
module _ (x at len : ℕ) (keys : List ℕ) where
  pub placed-found : at < min len (length keys) → get_or keys at 0 ≡ x → Placed x (take len keys) (Found at)
  placed-found h e = (simp length-take h, get_or-take len keys at 0 (omega (arith, h)) ∙ e)

  pub placed_missing : Boundary x (take len keys) at → (at < min len (length keys) → get_or keys at 0 ≡ x → ⊥) → Placed x (take len keys) (Missing at)
  placed_missing b n = (
    b,
    λ h e. let k : at < min len (length keys) = simp length-take at h in n k (sym (get_or-take len keys at 0 (omega (arith, k))) ∙ e),
  )

-- the boundary is an end of what is in use, or within
pub boundary_inside : (x len : ℕ) (keys : List ℕ) {at : ℕ} → Boundary x (take len keys) at → at ≤ len
boundary_inside x len keys b = let h : _ ≤ min len (length keys) = simp length-take at b.inside in omega (arith, h)

-- the place that was found is in use
pub found-used : (x len : ℕ) (keys : List ℕ) {at : ℕ} {r : Place} → Placed x (take len keys) r → r ≡ Found at → at < min len (length keys)
found-used x len keys p e = simp length-take at (subst (Placed x (take len keys)) e p).0

-- the place where it is missing is an end of what is in use, or within
pub missing_inside : (x len : ℕ) (keys : List ℕ) {at : ℕ} {r : Place} → Placed x (take len keys) r → r ≡ Missing at → at ≤ min len (length keys)
missing_inside x len keys p e = simp length-take at (subst (Placed x (take len keys)) e p).0.inside
