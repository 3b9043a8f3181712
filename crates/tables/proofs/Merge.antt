-- Two lists of counts merged place by place: what the next pair leaves, and the invariant of the loop.
-- Assumes nothing.
use Prim.Native.Nat.{ℕ, ◌+◌, ◌≤◌, ◌<◌, min}
use native.Mathlib.Omega.{arith}
use native.Mathlib.Numerals.{add-one}
use mathlib.Core.Path.{◌≡◌, refl, sym, ap, ◌∙◌}
use mathlib.Core.List.{List, [], ◌∷◌, ◌++◌, append-nil}
use mathlib.Core.Option.{Option, none, some}
use lib.Dec.{ltb}
use lib.ListN.{length, take, drop, get_or, set, length-set, length-take, replicate, length-replicate}
use lib.Seq.{length-take-le, take-suc-set, take-append_seam, take_all, append_snoc, drop-drop, get_or-take}
use borrow.Author.Tests.{ltb-true, ltb-false, eq-eqb, ne_eqb}
use Rattle.types.specs.Keyed.{Entry, entry, entries}
use Rattle.types.specs.Lists.{ListsCounts}
use Rattle.types.proofs.Cases.{split}
use Rattle.types.proofs.Loops.{rest_more}
use Rattle.types.proofs.Columns.{length-entries, entries_snoc, drop-entry, drop-entries-past}
use Rattle.tables.specs.Merge.{merge, first, picked}
use Rattle.tables.specs.declared.counts.Pick.{Pick}

-- ## the next pair
abbrev pub next : List (Entry ℕ) → List (Entry ℕ) → Pick
next k l = picked (first k) (first l)

pub next-is : {r : Pick} {a b x y : Option (Entry ℕ)} → r ≡ picked a b → a ≡ x → b ≡ y → r ≡ picked x y
next-is {b = b} {x = x} e p q = e ∙ ap (λ (h : Option (Entry ℕ)). picked h b) p ∙ ap (picked x) q

-- it takes one of each list at most
pub next-few : (k l : List (Entry ℕ)) → ((next k l).left ≤ 1) × ((next k l).right ≤ 1)
next-few [] [] = (omega arith, omega arith)
next-few [] (c ∷ l) = (omega arith, omega arith)
next-few (e ∷ k) [] = (omega arith, omega arith)
next-few (e ∷ k) (c ∷ l) =
    split (ltb e.key c.key)
    (λ p. rw p (omega arith, omega arith))
    (λ p. split (ltb c.key e.key) (λ q. rw (p, q) (omega arith, omega arith)) (λ q. rw (p, q) (omega arith, omega arith)))

-- where it takes none, nothing is left
pub next_none : (k l : List (Entry ℕ)) → (next k l).left + (next k l).right ≡ 0 → merge k l ≡ []
next_none [] [] h = refl
next_none [] (c ∷ l) h = absurd (omega arith)
next_none (e ∷ k) [] h = absurd (omega arith)
next_none (e ∷ k) (c ∷ l) h =
    absurd
    (split (ltb e.key c.key)
    (λ p. let z = rw p at h in omega arith)
    (λ p. split (ltb c.key e.key) (λ q. let z = rw (p, q) at h in omega arith) (λ q. let z = rw (p, q) at h in omega arith)))

-- and otherwise it stands in front of what the rest gives
pub next-some : (k l : List (Entry ℕ)) → ((next k l).left + (next k l).right ≡ 0 → ⊥)
    → merge k l ≡ entry (next k l).offset (next k l).attempt ∷ merge (drop (next k l).left k) (drop (next k l).right l)
next-some [] [] h = absurd (h refl)
next-some [] (c ∷ l) h = refl
next-some (e ∷ k) [] h = refl
next-some (e ∷ k) (c ∷ l) h =
    split (ltb e.key c.key)
    (λ p. rw p)
    (λ p. split (ltb c.key e.key)
    (λ q. rw (p, q, ne_eqb e.key c.key (λ s. omega (arith, ltb-true c.key e.key q))))
    (λ q. rw (p, q, eq-eqb e.key c.key (omega (arith, ltb-false e.key c.key p, ltb-false c.key e.key q)))))

-- ## the pair at a place of two columns
module _ (n i : ℕ) (ks vs : List ℕ) where
  pub pair-there : i < n → i < length ks → i < length vs → some (entry (get_or ks i 0) (get_or vs i 0)) ≡ first (drop i (entries (take n ks) (take n vs)))
  pair-there h k v =
      rw (← get_or-take n ks i 0 h, ← get_or-take n vs i 0 h)
      (sym (ap first (drop-entry 0 i (take n ks) (take n vs) (simp length-take (omega arith)) (simp length-take (omega arith)))))

  pub pair_missing : min n (min (length ks) (length vs)) ≤ i → none ≡ first (drop i (entries (take n ks) (take n vs)))
  pair_missing h = sym (ap first (drop-entries-past i (take n ks) (take n vs) (simp length-take (omega arith))))

-- ## the loop
-- what is filled, and what is left of the two lists merged, make the whole; the end is the room's, or where nothing is left
pub record Merging (k l : List (Entry ℕ)) (ks vs : List ℕ) (i j n end : ℕ) : Type 0 where
  pub order : n ≤ end
  pub room : end ≤ 192
  pub left : i ≤ n
  pub right : j ≤ n
  pub full : length ks ≡ 192
  pub full-counts : length vs ≡ 192
  pub is : entries (take n ks) (take n vs) ++ merge (drop i k) (drop j l) ≡ merge k l
  pub more : n < end → end ≡ 192
  pub none_left : end < 192 → merge (drop i k) (drop j l) ≡ []
  pub rest : drop n ks ≡ drop n (replicate 192 0)
  pub rest-counts : drop n vs ≡ drop n (replicate 192 0)

pub merging : (k l : List (Entry ℕ)) → Merging k l (replicate 192 0) (replicate 192 0) 0 0 0 192
merging k l =
    record {
      order = omega arith;
      room = omega arith;
      left = omega arith;
      right = omega arith;
      full = length-replicate {A = ℕ} 192 0;
      full-counts = length-replicate {A = ℕ} 192 0;
      is = refl;
      more = λ _. refl;
      none_left = λ h. absurd (omega arith);
      rest = refl;
      rest-counts = refl;
    }

module _ {k l : List (Entry ℕ)} {ks vs : List ℕ} {i j n end : ℕ} (inv : Merging k l ks vs i j n end) where
  even : length (take n ks) ≡ length (take n vs)
  even = length-take-le n ks (omega (arith, inv.order, inv.room, inv.full)) ∙ sym (length-take-le n vs (omega (arith, inv.order, inv.room, inv.full-counts)))

  module _ (r : Pick) (e : r ≡ next (drop i k) (drop j l)) where
    pub merging-end : r.left + r.right ≡ 0 → Merging k l ks vs i j n n
    merging-end h =
        record {
          order = omega arith;
          room = omega (arith, inv.order, inv.room);
          left = inv.left;
          right = inv.right;
          full = inv.full;
          full-counts = inv.full-counts;
          is = inv.is;
          more = λ m. absurd (omega arith);
          none_left = λ _. next_none (drop i k) (drop j l) (rw e at h);
          rest = inv.rest;
          rest-counts = inv.rest-counts;
        }

    pub merging-few : (r.left ≤ 1) × (r.right ≤ 1)
    merging-few = rw e (next-few (drop i k) (drop j l))

    pub merging-more : n < end → (r.left + r.right ≡ 0 → ⊥) → Merging k l (set ks n r.offset) (set vs n r.attempt) (i + r.left) (j + r.right) (n + 1) end
    merging-more h s =
        let a : n < length ks = omega (arith, inv.room, inv.full) in
        let b : n < length vs = omega (arith, inv.room, inv.full-counts) in
        let step : merge (drop i k) (drop j l) ≡ entry r.offset r.attempt ∷ merge (drop r.left (drop i k)) (drop r.right (drop j l)) = rw e (next-some (drop i k) (drop j l) (rw e at s)) in
        record {
          order = omega arith;
          room = inv.room;
          left = omega (arith, inv.left, merging-few.0);
          right = omega (arith, inv.right, merging-few.1);
          full = length-set ks n r.offset ∙ inv.full;
          full-counts = length-set vs n r.attempt ∙ inv.full-counts;
          is =
              rw (add-one n, take-suc-set ks n r.offset a, take-suc-set vs n r.attempt b, entries_snoc r.offset r.attempt (take n ks) (take n vs) even, append_snoc, ← drop-drop r.left i k, ← drop-drop r.right j l)
              (rw step at inv.is);
          more = λ _. inv.more h;
          none_left = λ m. absurd (omega (arith, inv.more h));
          rest = rest_more n ks (replicate 192 0) r.offset inv.rest;
          rest-counts = rest_more n vs (replicate 192 0) r.attempt inv.rest-counts;
        }

  pub merges : end ≤ n → ListsCounts (record { offsets = ks; attempts = vs; len = n }) (take 192 (merge k l))
  merges h = record { few = omega (arith, inv.order, inv.room); is = cut; rest = inv.rest; rest-attempts = inv.rest-counts }
    where
      filled : List (Entry ℕ)
      filled = entries (take n ks) (take n vs)

      long : length filled ≡ n
      long = length-entries (take n ks) (take n vs) even ∙ length-take-le n ks (omega (arith, inv.order, inv.room, inv.full))

      whole : filled ++ [] ≡ merge k l → filled ≡ take 192 (merge k l)
      whole e = rw (← e, append-nil filled) (sym (take_all 192 filled (omega (arith, long, inv.order, inv.room))))

      cut : filled ≡ take 192 (merge k l)
      cut =
          split (ltb n 192)
          (λ p. whole (rw (inv.none_left (omega (arith, ltb-true n 192 p))) at inv.is))
          (λ p. let e : length filled ≡ 192 = omega (arith, long, inv.order, inv.room, ltb-false n 192 p) in
          rw (← inv.is, ← e) (sym (take-append_seam filled (merge (drop i k) (drop j l)))))
