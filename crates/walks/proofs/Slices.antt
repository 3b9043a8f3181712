-- A slice in a local, lent on: its pointer is copied to another local, and the slice made anew in the next. Assumes `Logic`.
use mathlib.Core.Path.{◌≡◌, refl, sym, subst, ◌∙◌}
use Prim.Native.Nat.{ℕ, zero, suc}
use mathlib.Core.Bool.{Bool, ◌&&◌}
use mathlib.Core.List.{List, [], ◌∷◌}
use lib.Dec.{T}
use seplogic.Ra.Ura.{Ura}
use base.Fraction.{full_share}
use mir.Syntax.{Ty, Lifetime, Mutability, ty_ref, ty_int, w64, deref, field, place, copy, addr_of, aggregate, Body, seq, assign}
use mir.Val.{Val, vint, vptr, has_ty, Fits}
use mir.Facts.{and_yes}
use prog.Wp.{Env, Calls, Loops}
use types.Logic.{Logic}
use types.Kit.{Item, raw, Post, runs, Step, step, ◌$◌, Go, ! }
use types.Run.{Reads, Walks, Opd, Rv, stop, hop, fld, from, load, and_then, no_more, addr, assigns}
use types.Part.{Part, sub, look_in, agg}
use denote.Slice.{slice_ty, slice_val}
use Rattle.walks.proofs.Frame.{Slot, value_in, full, has, with_value, apart, value-kept, full-kept, set_full, set_value, type_in, block_in, Frame, held, sets}

module _ {M : Type 1} {𝓤 : Ura M} (𝓛 : Logic 𝓤) (E : Env 𝓤 𝓛.H) (j : ℕ) (ℓ : Lifetime) (μ : Mutability) (ρ σ : Ty) (b o n : ℕ) (is_Slice : type_in 𝓛 E j ≡ slice_ty (ty_ref ℓ μ ρ)) where
  open 𝓛 use {H}

  abbrev Holds : List Slot → Type 0
  Holds ss = T (full ss j) × (value_in ss j ≡ slice_val (b, o) n)

  slice_in : (ss : List Slot) → Holds ss → Part (Go {0}) 𝓛 (raw (Frame 𝓛 E ss)) full_share (slice_ty (ty_ref ℓ μ ρ)) (block_in 𝓛 E j) zero (slice_val (b, o) n) (λ u. raw (Frame 𝓛 E (with_value ss j u)))
  slice_in ss at =
      subst (λ (x : Ty × Val). Part (Go {0}) 𝓛 (raw (Frame 𝓛 E ss)) full_share x.0 (block_in 𝓛 E j) zero x.1 (λ u. raw (Frame 𝓛 E (with_value ss j u))))
      (λ i. (is_Slice i, at.1 i)) (held 𝓛 E ss j at.0)

  pointer-of : {Γ : List (Item 𝓤)} (ss : List Slot) → Holds ss → Rv (Go {0}) 𝓛 (raw (Frame 𝓛 E ss) ∷ Γ) E (addr_of (place j (field 0 ∷ deref σ ∷ []))) (vptr b o)
  pointer-of {Γ} ss at =
      addr ! (from ! (subst (λ (τ : Ty). Walks (Go {0}) 𝓛 (raw (Frame 𝓛 E ss) ∷ Γ) E (τ, block_in 𝓛 E j, zero) (field 0 ∷ deref σ ∷ []) (σ, b, o)) (sym is_Slice)
      (fld ! refl (hop ! (look_in ! 0 (sub ! 0 refl (slice_in ss at))) (stop !)))))

  length-of : {Γ : List (Item 𝓤)} (ss : List Slot) → Holds ss → Opd (Go {0}) 𝓛 (raw (Frame 𝓛 E ss) ∷ Γ) E (copy (place j (field 1 ∷ []))) (vint w64 n)
  length-of {Γ} ss at =
      load ! (from ! (subst (λ (τ : Ty). Walks (Go {0}) 𝓛 (raw (Frame 𝓛 E ss) ∷ Γ) E (τ, block_in 𝓛 E j, zero) (field 1 ∷ []) (ty_int w64, block_in 𝓛 E j, 8)) (sym is_Slice) (fld ! refl (stop !))))
      (look_in ! 0 (sub ! 1 refl (slice_in ss at)))

  abbrev fits_in : List Slot → ℕ → Bool
  fits_in ss k =
      has ss k && (has (with_value ss k (vptr b o)) (suc k) && (apart k j && (has_ty (type_in 𝓛 E k) (vptr b o) && has_ty (type_in 𝓛 E (suc k)) (slice_val (b, o) n))))

  pub relends : {Γ : List (Item 𝓤)} {C : Calls 𝓤 H} {Λ : Loops 𝓤 H} {q : Post 𝓤 H} {rest : Body} (ss : List Slot) (k : ℕ) → Holds ss → T (fits_in ss k) → Fits w64 n
      → Step (Go {0}) 𝓛 (raw (Frame 𝓛 E (with_value (with_value ss k (vptr b o)) (suc k) (slice_val (b, o) n))) ∷ Γ) (runs C Λ E rest q)
      (raw (Frame 𝓛 E ss) ∷ Γ)
      (runs C Λ E (seq (assign (place k []) (addr_of (place j (field 0 ∷ deref σ ∷ [])))) (seq (assign (place (suc k) []) (aggregate (copy (place k []) ∷ copy (place j (field 1 ∷ [])) ∷ []))) rest)) q)
  relends {Γ} ss k at t fits =
      let p = vptr b o in
      let ss' = with_value ss k p in
      let typed = has_ty (type_in 𝓛 E k) p in
      let typed' = has_ty (type_in 𝓛 E (suc k)) (slice_val (b, o) n) in
      let t₀ = and_yes (has ss k) (has ss' (suc k) && (apart k j && (typed && typed'))) t in
      let t₁ = and_yes (has ss' (suc k)) (apart k j && (typed && typed')) t₀.1 in
      let t₂ = and_yes (apart k j) (typed && typed') t₁.1 in
      let t₃ = and_yes typed typed' t₂.1 in
      step (λ s. assigns ! (pointer-of ss at) (from ! (stop !)) (sets 𝓛 E ss k p t₀.0 (t₃.0, tt)) $
      assigns ! (agg ! (and_then ! (load ! (from ! (stop !)) (subst (λ (u : Val). Reads (Go {0}) 𝓛 (raw (Frame 𝓛 E ss') ∷ Γ) (type_in 𝓛 E k) (block_in 𝓛 E k) zero u) (set_value ss k p t₀.0) (look_in ! 0 (held 𝓛 E ss' k (set_full ss k p t₀.0)))))
      (and_then ! (length-of ss' (subst T (sym (full-kept ss k j p t₂.0)) at.0, value-kept ss k j p t₂.0 ∙ at.1)) (no_more !)))) (from ! (stop !))
      (sets 𝓛 E ss' (suc k) (slice_val (b, o) n) t₁.0 (t₃.1, (tt, (fits, tt)))) $ s)
