-- The columns of numbers as one column of leases: what is done to a place of all of them is done to that place of the leases.
-- Assumes nothing.
use Prim.Native.Nat.{ℕ}
use native.Mathlib.Omega.{arith}
use mathlib.Core.Path.{◌≡◌, refl, sym, ap, ◌∙◌}
use mathlib.Core.List.{List, [], ◌∷◌, map, map-id}
use lib.ListN.{length, get_or, set}
use lib.Seq.{set-get_or}
use Rattle.types.specs.Zipped.{zipped}
use Rattle.types.proofs.Zipped.{zipped-length, zipped_get_d, zipped-set}
use Rattle.lease.specs.State.{beside, lease_from, lease_column, nil}
use Rattle.lease.specs.Operations.{lease, with_deadline, requeued_as}
use Rattle.lease.specs.Rest.{resealed_as, shifted_by}
use Rattle.lease.specs.Helpers.{later_by}
use Rattle.lease.specs.Parts.{Even}
use Rattle.lease.specs.declared.Lease.{Lease}

-- what the second of two columns tells of their zip is what it tells of the column
zipped-right : {A B C D : Type 0} (f : A → B → C) (g : C → D) (h : B → D) → ((a : A) (b : B) → g (f a b) ≡ h b)
    → (xs : List A) (ys : List B) → length xs ≡ length ys → map g (zipped f xs ys) ≡ map h ys
zipped-right f g h e [] [] k = refl
zipped-right f g h e [] (y ∷ ys) k = absurd (omega arith)
zipped-right f g h e (x ∷ xs) [] k = absurd (omega arith)
zipped-right f g h e (x ∷ xs) (y ∷ ys) k = rw (e x y, zipped-right f g h e xs ys (omega arith))

-- and what the first tells
zipped-left : {A B C D : Type 0} (f : A → B → C) (g : C → D) (h : A → D) → ((a : A) (b : B) → g (f a b) ≡ h a)
    → (xs : List A) (ys : List B) → length xs ≡ length ys → map g (zipped f xs ys) ≡ map h xs
zipped-left f g h e [] [] k = refl
zipped-left f g h e [] (y ∷ ys) k = absurd (omega arith)
zipped-left f g h e (x ∷ xs) [] k = absurd (omega arith)
zipped-left f g h e (x ∷ xs) (y ∷ ys) k = rw (e x y, zipped-left f g h e xs ys (omega arith))

module _ (gs ss ds ns ws : List ℕ) where
  -- a lease stored at a place, whatever the lengths
  pub column-set : (i g s d n w : ℕ) → lease_column (set gs i g) (set ss i s) (set ds i d) (set ns i n) (set ws i w) ≡ set (lease_column gs ss ds ns ws) i (lease g s d n w)
  unfolding lease_column
  column-set i g s d n w =
      rw (
        zipped-set beside i n w ns ws,
        zipped-set beside i d (n, w) ds (zipped beside ns ws),
        zipped-set beside i s (d, (n, w)) ss (zipped beside ds (zipped beside ns ws)),
      ) (zipped-set lease_from i g (s, (d, (n, w))) gs (zipped beside ss (zipped beside ds (zipped beside ns ws))))

-- every clock forward
module _ (delta : ℕ) where
  zipped_shifted : (gs ss ds : List ℕ) (rs : List (ℕ × ℕ))
      → zipped lease_from gs (zipped beside (map (later_by delta) ss) (zipped beside (map (later_by delta) ds) rs)) ≡ map (shifted_by delta) (zipped lease_from gs (zipped beside ss (zipped beside ds rs)))
  zipped_shifted [] ss ds rs = refl
  zipped_shifted (g ∷ gs) [] ds rs = refl
  zipped_shifted (g ∷ gs) (s ∷ ss) [] rs = refl
  zipped_shifted (g ∷ gs) (s ∷ ss) (d ∷ ds) [] = refl
  zipped_shifted (g ∷ gs) (s ∷ ss) (d ∷ ds) (r ∷ rs) = ap (λ (l : List Lease). shifted_by delta (lease g s d r.0 r.1) ∷ l) (zipped_shifted gs ss ds rs)

  pub column_shifted : (gs ss ds ns ws : List ℕ) → lease_column gs (map (later_by delta) ss) (map (later_by delta) ds) ns ws ≡ map (shifted_by delta) (lease_column gs ss ds ns ws)
  unfolding lease_column
  column_shifted gs ss ds ns ws = zipped_shifted gs ss ds (zipped beside ns ws)

module _ {k : ℕ} {gs ss ds ns ws : List ℕ} (even : Even k gs ss ds ns ws) where
  counted : length ns ≡ length ws
  counted = even.counts ∙ sym even.workers

  due : length ds ≡ length (zipped beside ns ws)
  due = even.deadlines ∙ sym (zipped-length beside ns ws counted ∙ even.counts)

  timed : length ss ≡ length (zipped beside ds (zipped beside ns ws))
  timed = even.starts ∙ sym (zipped-length beside ds (zipped beside ns ws) due ∙ even.deadlines)

  whole : length gs ≡ length (zipped beside ss (zipped beside ds (zipped beside ns ws)))
  whole = even.generations ∙ sym (zipped-length beside ss (zipped beside ds (zipped beside ns ws)) timed ∙ even.starts)

  pub column-length : length (lease_column gs ss ds ns ws) ≡ k
  unfolding lease_column
  column-length = zipped-length lease_from gs (zipped beside ss (zipped beside ds (zipped beside ns ws))) whole ∙ even.generations

  pub column-at : (i : ℕ) → get_or (lease_column gs ss ds ns ws) i nil ≡ lease (get_or gs i 0) (get_or ss i 0) (get_or ds i 0) (get_or ns i 0) (get_or ws i 0)
  unfolding lease_column
  column-at i =
      zipped_get_d lease_from i 0 (0, (0, (0, 0))) gs (zipped beside ss (zipped beside ds (zipped beside ns ws))) whole
      ∙ ap (lease_from (get_or gs i 0)) (zipped_get_d beside i 0 (0, (0, 0)) ss (zipped beside ds (zipped beside ns ws)) timed
      ∙ ap (beside (get_or ss i 0)) (zipped_get_d beside i 0 (0, 0) ds (zipped beside ns ws) due ∙ ap (beside (get_or ds i 0)) (zipped_get_d beside i 0 0 ns ws counted)))

  -- the counts of the leases are the column of counts
  pub column-counts : map (λ (l : Lease). l.deliveries) (lease_column gs ss ds ns ws) ≡ ns
  unfolding lease_column
  column-counts =
      zipped-right lease_from (λ (l : Lease). l.deliveries) (λ (p : ℕ × (ℕ × (ℕ × ℕ))). p.1.1.0) (λ a b. refl) gs (zipped beside ss (zipped beside ds (zipped beside ns ws))) whole
      ∙ zipped-right beside (λ (p : ℕ × (ℕ × (ℕ × ℕ))). p.1.1.0) (λ (p : ℕ × (ℕ × ℕ)). p.1.0) (λ a b. refl) ss (zipped beside ds (zipped beside ns ws)) timed
      ∙ zipped-right beside (λ (p : ℕ × (ℕ × ℕ)). p.1.0) (λ (p : ℕ × ℕ). p.0) (λ a b. refl) ds (zipped beside ns ws) due
      ∙ zipped-left beside (λ (p : ℕ × ℕ). p.0) (λ (n : ℕ). n) (λ a b. refl) ns ws counted
      ∙ map-id ns

  -- a store in the deadlines alone, in the generations alone, and in both
  pub column-deadline : (i d : ℕ) → lease_column gs ss (set ds i d) ns ws ≡ set (lease_column gs ss ds ns ws) i (with_deadline d (get_or (lease_column gs ss ds ns ws) i nil))
  column-deadline i d =
      rw (column-at i, ← column-set gs ss ds ns ws i (get_or gs i 0) (get_or ss i 0) d (get_or ns i 0) (get_or ws i 0), set-get_or gs i 0, set-get_or ss i 0, set-get_or ns i 0, set-get_or ws i 0)

  pub column-resealed : (i g : ℕ) → lease_column (set gs i g) ss ds ns ws ≡ set (lease_column gs ss ds ns ws) i (resealed_as g (get_or (lease_column gs ss ds ns ws) i nil))
  column-resealed i g =
      rw (column-at i, ← column-set gs ss ds ns ws i g (get_or ss i 0) (get_or ds i 0) (get_or ns i 0) (get_or ws i 0), set-get_or ss i 0, set-get_or ds i 0, set-get_or ns i 0, set-get_or ws i 0)

  pub column_requeued : (i g d : ℕ) → lease_column (set gs i g) ss (set ds i d) ns ws ≡ set (lease_column gs ss ds ns ws) i (requeued_as g d (get_or (lease_column gs ss ds ns ws) i nil))
  column_requeued i g d =
      rw (column-at i, ← column-set gs ss ds ns ws i g (get_or ss i 0) d (get_or ns i 0) (get_or ws i 0), set-get_or ss i 0, set-get_or ns i 0, set-get_or ws i 0)
