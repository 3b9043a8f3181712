-- What is left of a template to put behind a mark. Assumes nothing.
use Prim.Native.Nat.{ℕ, ◌+◌}
use mathlib.Core.Path.{◌≡◌, sym, ap, ◌∙◌}
use mathlib.Core.List.{List, ◌∷◌}
use lib.ListN.{drop}
use lib.Seq.{drop-drop}

-- where the parts from i on are those that are left, one part more is taken
module _ (all left : List (List ℕ)) (i : ℕ) (part : List ℕ) (e : drop i all ≡ part ∷ left) where
  pub left_after : drop (i + 1) all ≡ left
  left_after = sym (drop-drop 1 i all) ∙ ap (drop 1) e

  pub part-there : drop i all ≡ part ∷ drop (i + 1) all
  part-there = e ∙ ap (λ (l : List (List ℕ)). part ∷ l) (sym left_after)
