-- The columns of a snapshot's pairs: the number that stands at each place, and a lent column with all of them at its front.
-- Assumes nothing.
use Prim.Native.Nat.{ℕ, zero, suc, ◌+◌, ◌<◌, ◌≤◌}
use native.Mathlib.Omega.{arith}
use native.Mathlib.Nat.{add-zero}
use mathlib.Core.Path.{◌≡◌, ap, ◌∙◌}
use mathlib.Core.Bool.{Bool}
use mathlib.Core.List.{List, ◌++◌, map}
use lib.ListN.{length, drop, get_or, set, take-append-drop, length-map, get_or-map}
use lib.Seq.{take_all}
use Rattle.types.specs.Keyed.{Entry, entry}
use Rattle.types.proofs.Loops.{Filling, filling-more}
use Rattle.attempt.specs.Snapshot.{read_pair, read_pairs}
use Rattle.attempt.proofs.Snapshot.{length-read}

module _ (split : Bool) (n : ℕ) (b : List ℕ) where
  pair-at : (k i j : ℕ) → j < k → get_or (read_pairs split n k i b) j (entry 0 0) ≡ read_pair split n (i + j) b
  pair-at zero i j h = absurd (omega arith)
  pair-at (suc k) i zero h = rw (add-zero i)
  pair-at (suc k) i (suc j) h =
      let e : i + 1 + j ≡ i + suc j = omega arith in
      pair-at k (i + 1) j (omega arith) ∙ ap (λ (m : ℕ). read_pair split n m b) e

  -- one of the two numbers of each pair
  module _ (field : Entry ℕ → ℕ) (none : field (entry 0 0) ≡ 0) where
    abbrev column : List ℕ
    column = map field (read_pairs split n n 0 b)

    size : length column ≡ n
    size = length-map (read_pairs split n n 0 b) field ∙ length-read split n n 0 b

    number-at : (i : ℕ) → i < n → get_or column i 0 ≡ field (read_pair split n i b)
    number-at i h =
        let e : 0 + i ≡ i = omega arith in
        rw none at (get_or-map field (read_pairs split n n 0 b) i (entry 0 0))
        ∙ ap field (pair-at n 0 i h ∙ ap (λ (m : ℕ). read_pair split n m b) e)

    pub read_more : {start out : List ℕ} {i : ℕ} (x : ℕ) → x ≡ field (read_pair split n i b) → i < n → Filling column start out n i
        → Filling column start (set out i x) n (i + 1)
    read_more {start} {out} {i} x e h f = rw (e, ← number-at i h) (filling-more 0 (omega (arith, size)) h f)

    pub read_all : {start out : List ℕ} {i : ℕ} → n ≤ i → Filling column start out n i → out ≡ column ++ drop n start
    read_all {start} {out} {i} h f =
        let e : i ≡ n = omega (arith, f.inside) in
        let front = rw (e, take_all n column (omega (arith, size))) at f.done in
        let rest = rw e at f.rest in
        rw (← front, ← rest, take-append-drop n out)
