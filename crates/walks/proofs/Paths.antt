-- The fields of a struct behind a reference, at any depth: a path of field numbers leads to one.
--     Path τ           a path from a value of the type τ; `end_of`, `place_in`: the type and the place where it leads, `get_in`, `set_in`: the value there
--     inside p         a cell has within it the cell where p leads
--     fetches          statements that copy fields to locals or take their addresses, one after another
--     stores           statements that store fields of a local into fields behind the reference
-- Assumes `Logic`.
use mathlib.Core.Path.{◌≡◌, refl, sym, subst, ◌∙◌}
use Prim.Native.Nat.{ℕ, zero, suc, ◌+◌}
use mathlib.Core.Bool.{Bool, true, false, ◌&&◌}
use mathlib.Core.Option.{some}
use mathlib.Core.List.{List, [], ◌∷◌}
use lib.Dec.{T}
use seplogic.Ra.Ura.{Ura}
use base.Fraction.{full_share}
use mir.Syntax.{Sym, Ty, ty_struct, Tys, Step as PStep, deref, field, place, copy, Rv as RValue, rv_opd, addr_of, Body, seq, assign}
use mir.Val.{Val, vunit, vbool, vint, vfloat, vptr, vstruct, Vals, vnil, vcons, WT, WTs, has_ty, vcode}
use mir.Fields.{get_v, set_v}
use mir.Facts.{and_yes}
use base.Fml.{Share, fat}
use prog.Memory.{field_at}
use prog.Wp.{Env, Calls, Loops}
use types.Logic.{Logic}
use types.Kit.{Item, ‵, raw, Post, runs, Step, step, ◌$◌, Go, ! }
use types.Run.{Reads, Walks, Rv, stop, hop, fld, from, load, of_opd, addr, assigns}
use types.Part.{Part, whole, sub, look_in, store_in}
use Rattle.walks.proofs.Frame.{Slot, value_in, full, has, with_value, apart, value-kept, full-kept, Frame, type_in, block_in, held, sets}

-- ## paths
pub data Path : Ty → Type 0 where
  here : {τ : Ty} → Path τ
  into : {ν : Sym} {τs : Tys} {τ : Ty} {d : ℕ} (k : ℕ) → field_at zero τs k ≡ some (τ, d) → Path τ → Path (ty_struct ν τs)

abbrev pub end_of : {τ : Ty} → Path τ → Ty
end_of {τ} here = τ
end_of (into k e p) = end_of p

abbrev pub place_in : {τ : Ty} → Path τ → ℕ → ℕ
place_in here o = o
place_in (into {d = d} k e p) o = place_in p (o + d)

abbrev pub steps : {τ : Ty} → Path τ → List PStep
steps here = []
steps (into k e p) = field k ∷ steps p

-- the fields of a struct's value
abbrev pub fields_in : Val → Vals
fields_in vunit = vnil
fields_in (vbool b) = vnil
fields_in (vint w n) = vnil
fields_in (vfloat f x) = vnil
fields_in (vptr b o) = vnil
fields_in (vcode t) = vnil
fields_in (vstruct vs) = vs

abbrev pub is_struct : Val → Bool
is_struct vunit = false
is_struct (vbool b) = false
is_struct (vint w n) = false
is_struct (vfloat f x) = false
is_struct (vptr b o) = false
is_struct (vcode t) = false
is_struct (vstruct vs) = true

pub is-struct : (v : Val) → T (is_struct v) → vstruct (fields_in v) ≡ v
is-struct vunit t = absurd t
is-struct (vbool b) t = absurd t
is-struct (vint w n) t = absurd t
is-struct (vfloat f x) t = absurd t
is-struct (vptr b o) t = absurd t
is-struct (vcode u) t = absurd t
is-struct (vstruct vs) t = refl

abbrev pub get_in : {τ : Ty} → Path τ → Val → Val
get_in here v = v
get_in (into k e p) v = get_in p (get_v (fields_in v) k)

abbrev pub set_in : {τ : Ty} → Path τ → Val → Val → Val
set_in here v u = u
set_in (into k e p) v u = vstruct (set_v (fields_in v) k (set_in p (get_v (fields_in v) k) u))

-- each value on the way is a struct's
abbrev pub opens : {τ : Ty} → Path τ → Val → Bool
opens here v = true
opens (into k e p) v = is_struct v && opens p (get_v (fields_in v) k)

wt_field : (vs : Vals) (k : ℕ) → WTs vs → WT (get_v vs k)
wt_field vnil k w = tt
wt_field (vcons v vs) zero w = w.0
wt_field (vcons v vs) (suc k) w = wt_field vs k w.1

pub wt_in : {τ : Ty} (p : Path τ) (v : Val) → T (opens p v) → WT v → WT (get_in p v)
wt_in here v t w = w
wt_in (into k e p) v t w =
    let both = and_yes (is_struct v) (opens p (get_v (fields_in v) k)) t in
    wt_in p (get_v (fields_in v) k) both.1 (wt_field (fields_in v) k (subst WT (sym (is-struct v both.0)) w))

-- ## what is copied to a local: a field, or its address
pub data Fetch (τ : Ty) : Type 0 where
  copied : Path τ → Fetch τ
  lent : Path τ → Fetch τ

module _ {τ : Ty} (r : ℕ) where
  abbrev fetch-from : Fetch τ → RValue
  fetch-from (copied p) = rv_opd (copy (place r (deref τ ∷ steps p)))
  fetch-from (lent p) = addr_of (place r (deref τ ∷ steps p))

  -- into the locals from k on
  abbrev pub fetching : ℕ → List (Fetch τ) → Body → Body
  fetching k [] rest = rest
  fetching k (f ∷ fs) rest = seq (assign (place k []) (fetch-from f)) (fetching (suc k) fs rest)

module _ {τ : Ty} (b o : ℕ) (v : Val) where
  abbrev fetch-value : Fetch τ → Val
  fetch-value (copied p) = get_in p v
  fetch-value (lent p) = vptr b (place_in p o)

  abbrev fetch-opens : Fetch τ → Bool
  fetch-opens (copied p) = opens p v
  fetch-opens (lent p) = true

  abbrev pub fetched : List Slot → ℕ → List (Fetch τ) → List Slot
  fetched ss k [] = ss
  fetched ss k (f ∷ fs) = fetched (with_value ss k (fetch-value f)) (suc k) fs

fetch_wt : {τ : Ty} (b o : ℕ) (v : Val) (f : Fetch τ) → T (fetch-opens b o v f) → WT v → WT (fetch-value b o v f)
fetch_wt b o v (copied p) t w = wt_in p v t w
fetch_wt b o v (lent p) t w = tt

-- ## what is stored: a field of a local into a field behind the reference
module _ {σ τ : Ty} (r j : ℕ) where
  abbrev pub storing : List (Path σ × Path τ) → Body → Body
  storing [] rest = rest
  storing (x ∷ xs) rest = seq (assign (place r (deref τ ∷ steps x.1)) (rv_opd (copy (place j (steps x.0))))) (storing xs rest)

module _ {σ τ : Ty} (u : Val) where
  abbrev pub stored : List (Path σ × Path τ) → Val → Val
  stored [] v = v
  stored (x ∷ xs) v = stored xs (set_in x.1 v (get_in x.0 u))

  abbrev pub storable : List (Path σ × Path τ) → Val → Bool
  storable [] v = true
  storable (x ∷ xs) v = opens x.0 u && (opens x.1 v && (has_ty (end_of x.1) (get_in x.0 u) && storable xs (set_in x.1 v (get_in x.0 u))))

-- ## the rules
module _ {M : Type 1} {𝓤 : Ura M} (𝓛 : Logic 𝓤) where
  open 𝓛 use {H}

  pub inside : {i : Item 𝓤} {q : Share} {τ : Ty} {b o : ℕ} {v : Val} {back : Val → Item 𝓤} (p : Path τ) → T (opens p v) → Part (Go {0}) 𝓛 i q τ b o v back
      → Part (Go {0}) 𝓛 i q (end_of p) b (place_in p o) (get_in p v) (λ u. back (set_in p v u))
  inside here t whole = whole
  inside {i} {q} {τ} {b} {o} {v} {back} (into k e p) t part =
      let both = and_yes (is_struct v) (opens p (get_v (fields_in v) k)) t in
      inside p both.1 (sub ! k e (subst (λ (u : Val). Part (Go {0}) 𝓛 i q τ b o u back) (sym (is-struct v both.0)) part))

  along : {Γ : List (Item 𝓤)} {E : Env 𝓤 H} {τ : Ty} {b o : ℕ} (p : Path τ) → Walks (Go {0}) 𝓛 Γ E (τ, b, o) (steps p) (end_of p, b, place_in p o)
  along here = stop !
  along (into k e p) = fld ! e (along p)

  module _ (E : Env 𝓤 H) (r : ℕ) (τ : Ty) (b o : ℕ) where
    -- the reference in local r points to (b, o)
    abbrev Points : List Slot → Type 0
    Points ss = T (full ss r) × (value_in ss r ≡ vptr b o)

    pointer : {Γ : List (Item 𝓤)} (ss : List Slot) → Points ss → Reads (Go {0}) 𝓛 (raw (Frame 𝓛 E ss) ∷ Γ) (type_in 𝓛 E r) (block_in 𝓛 E r) zero (vptr b o)
    pointer {Γ} ss at = subst (λ (u : Val). Reads (Go {0}) 𝓛 (raw (Frame 𝓛 E ss) ∷ Γ) (type_in 𝓛 E r) (block_in 𝓛 E r) zero u) at.1 (look_in ! 0 (held 𝓛 E ss r at.0))

    module _ (v : Val) where
      abbrev is-typed : ℕ → Fetch τ → Bool
      is-typed k f = has_ty (type_in 𝓛 E k) (fetch-value b o v f)

      abbrev fetchable : List Slot → ℕ → List (Fetch τ) → Bool
      fetchable ss k [] = true
      fetchable ss k (f ∷ fs) = has ss k && (apart k r && (fetch-opens b o v f && (is-typed k f && fetchable (with_value ss k (fetch-value b o v f)) (suc k) fs)))

      fetch : {Γ : List (Item 𝓤)} (ss : List Slot) → Points ss → (f : Fetch τ) → T (fetch-opens b o v f)
          → Rv (Go {0}) 𝓛 (raw (Frame 𝓛 E ss) ∷ ‵ (fat full_share τ b o v) ∷ Γ) E (fetch-from r f) (fetch-value b o v f)
      fetch ss at (copied p) t = of_opd ! (load ! (from ! (hop ! (pointer ss at) (along p))) (look_in ! 1 (inside p t (whole !))))
      fetch ss at (lent p) t = addr ! (from ! (hop ! (pointer ss at) (along p)))

      pub fetches : {Γ : List (Item 𝓤)} {C : Calls 𝓤 H} {Λ : Loops 𝓤 H} {q : Post 𝓤 H} {rest : Body} (ss : List Slot) (k : ℕ) (fs : List (Fetch τ)) → Points ss → T (fetchable ss k fs) → WT v
          → Step (Go {0}) 𝓛 (raw (Frame 𝓛 E (fetched b o v ss k fs)) ∷ ‵ (fat full_share τ b o v) ∷ Γ) (runs C Λ E rest q)
          (raw (Frame 𝓛 E ss) ∷ ‵ (fat full_share τ b o v) ∷ Γ) (runs C Λ E (fetching r k fs rest) q)
      fetches ss k [] at t w = step (λ s. s)
      fetches ss k (f ∷ fs) at t w =
          let u = fetch-value b o v f in
          let more = fetchable (with_value ss k u) (suc k) fs in
          let t₀ = and_yes (has ss k) (apart k r && (fetch-opens b o v f && (is-typed k f && more))) t in
          let t₁ = and_yes (apart k r) (fetch-opens b o v f && (is-typed k f && more)) t₀.1 in
          let t₂ = and_yes (fetch-opens b o v f) (is-typed k f && more) t₁.1 in
          let t₃ = and_yes (is-typed k f) more t₂.1 in
          step (λ s. assigns ! (fetch ss at f t₂.0) (from ! (stop !)) (sets 𝓛 E ss k u t₀.0 (t₃.0, fetch_wt b o v f t₂.0 w)) $
          fetches (with_value ss k u) (suc k) fs (subst T (sym (full-kept ss k r u t₁.0)) at.0, value-kept ss k r u t₁.0 ∙ at.1) t₃.1 w $ s)

    pub stores : {Γ : List (Item 𝓤)} {C : Calls 𝓤 H} {Λ : Loops 𝓤 H} {q : Post 𝓤 H} {rest : Body} (ss : List Slot) (j : ℕ) (xs : List (Path (type_in 𝓛 E j) × Path τ)) (v : Val)
        → Points ss → T (full ss j) → T (storable (value_in ss j) xs v) → WT (value_in ss j)
        → Step (Go {0}) 𝓛 (raw (Frame 𝓛 E ss) ∷ ‵ (fat full_share τ b o (stored (value_in ss j) xs v)) ∷ Γ) (runs C Λ E rest q)
        (raw (Frame 𝓛 E ss) ∷ ‵ (fat full_share τ b o v) ∷ Γ) (runs C Λ E (storing r j xs rest) q)
    stores ss j [] v at ok t w = step (λ s. s)
    stores ss j (x ∷ xs) v at ok t w =
        let u = get_in x.0 (value_in ss j) in
        let more = storable (value_in ss j) xs (set_in x.1 v u) in
        let t₀ = and_yes (opens x.0 (value_in ss j)) (opens x.1 v && (has_ty (end_of x.1) u && more)) t in
        let t₁ = and_yes (opens x.1 v) (has_ty (end_of x.1) u && more) t₀.1 in
        let t₂ = and_yes (has_ty (end_of x.1) u) more t₁.1 in
        step (λ s. assigns ! (of_opd ! (load ! (from ! (along x.0)) (look_in ! 0 (inside x.0 t₀.0 (held 𝓛 E ss j ok))))) (from ! (hop ! (pointer ss at) (along x.1)))
        (store_in ! 1 (inside x.1 t₁.0 (whole !)) (t₂.0, wt_in x.0 (value_in ss j) t₀.0 w)) $
        stores ss j xs (set_in x.1 v u) at ok t₂.1 w $ s)
