-- A part taken out of what is owned, with the way back at any value: `P ∗ ∀ u. Q u -∗ F u`.
--     self             the whole
--     top, under       of the head of a star, and of what stands behind it
--     within           a part of a part
--     put_back         the way back, taken at a value
-- Assumes `Logic`, for the calculus alone.
use mathlib.Core.List.{[], ◌∷◌}
use seplogic.Ra.Ura.{Ura}
use base.Logic.{SProp, ent, sep, wand, all, all_e, apply∗}
use types.Logic.{Logic}
use types.Kit.{raw, ◌⊛◌, ◌$◌, ◌∵◌, !, qed, move, use1, use2, split, frame, each, assume, done}

module _ {M : Type 1} {𝓤 : Ura M} (𝓛 : Logic 𝓤) {X : Type 0} where
  abbrev pub Ways : (X → SProp 𝓤) → (X → SProp 𝓤) → SProp 𝓤
  Ways Q F = all 𝓤 (λ (u : X). wand 𝓤 (Q u) (F u))

  pub put_back : (Q F : X → SProp 𝓤) (u : X) → ent 𝓤 (sep 𝓤 (Q u) (Ways Q F)) (F u)
  put_back Q F u =
      qed 𝓛 (raw (Q u) ∷ raw (Ways Q F) ∷ []) ∵ move ! (1 ∷ []) $
      use1 𝓛 (raw (wand 𝓤 (Q u) (F u))) (all_e 𝓤 (λ (z : X). wand 𝓤 (Q z) (F z)) u) $
      move ! (1 ∷ 0 ∷ []) $ use2 𝓛 (raw (F u)) (apply∗ 𝓤 (Q u) (F u)) $ done !

  pub self : (Q : X → SProp 𝓤) (x : X) → ent 𝓤 (Q x) (sep 𝓤 (Q x) (Ways Q Q))
  self Q x = qed 𝓛 (raw (Q x) ∷ []) ∵ frame ! $ each ! (λ (u : X). wand 𝓤 (Q u) (Q u)) (λ u. assume {P = Q u} ! (raw (Q u)) $ done !)

  pub top : (R : SProp 𝓤) (P : SProp 𝓤) (Q : X → SProp 𝓤) → ent 𝓤 (sep 𝓤 P R) (sep 𝓤 P (Ways Q (λ u. sep 𝓤 (Q u) R)))
  top R P Q =
      qed 𝓛 (raw P ∷ raw R ∷ []) ∵ frame ! $
      each ! (λ (u : X). wand 𝓤 (Q u) (sep 𝓤 (Q u) R)) (λ u. assume {P = sep 𝓤 (Q u) R} ! (raw (Q u)) $ done !)

  pub under : (P R F : SProp 𝓤) (Q F' : X → SProp 𝓤) → ent 𝓤 F (sep 𝓤 P (Ways Q F'))
      → ent 𝓤 (sep 𝓤 R F) (sep 𝓤 P (Ways Q (λ u. sep 𝓤 R (F' u))))
  under P R F Q F' h =
      qed 𝓛 (raw R ∷ raw F ∷ []) ∵ move ! (1 ∷ []) $ use1 𝓛 (raw P ⊛ raw (Ways Q F')) h $ split ! $ frame ! $
      each ! (λ (u : X). wand 𝓤 (Q u) (sep 𝓤 R (F' u))) (λ u. assume {P = sep 𝓤 R (F' u)} ! (raw (Q u)) $
      use2 𝓛 (raw (F' u)) (put_back Q F' u) $ move ! (1 ∷ 0 ∷ []) $ done !)

  pub within : (F P P' : SProp 𝓤) (Q F' : X → SProp 𝓤) (Q' : X → SProp 𝓤) (g : X → X) → ent 𝓤 F (sep 𝓤 P (Ways Q F')) → ent 𝓤 P (sep 𝓤 P' (Ways Q' (λ u. Q (g u))))
      → ent 𝓤 F (sep 𝓤 P' (Ways Q' (λ u. F' (g u))))
  within F P P' Q F' Q' g h k =
      qed 𝓛 (raw F ∷ []) ∵ use1 𝓛 (raw P ⊛ raw (Ways Q F')) h $ split ! $ use1 𝓛 (raw P' ⊛ raw (Ways Q' (λ u. Q (g u)))) k $ split ! $ frame ! $
      each ! (λ (u : X). wand 𝓤 (Q' u) (F' (g u))) (λ u. assume {P = F' (g u)} ! (raw (Q' u)) $
      use2 𝓛 (raw (Q (g u))) (put_back Q' (λ z. Q (g z)) u) $ use2 𝓛 (raw (F' (g u))) (put_back Q F' (g u)) $ done !)
