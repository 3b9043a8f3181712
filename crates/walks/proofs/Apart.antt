-- Several fields of a struct, at any depth, taken out of its cell at once, and put back with other values.
--     Fields ps vs     the cells of the fields where the paths ps lead, with the values vs
--     Rest             the struct without them
--     fields_out, fields_back      from the struct's cell, and to it again
-- Assumes `Logic`.
use mathlib.Core.Path.{◌≡◌, subst}
use Prim.Native.Nat.{ℕ, zero, suc, ◌+◌}
use mathlib.Core.Bool.{Bool, true, false, ◌&&◌}
use mathlib.Core.Option.{some, none-ne-some, some-injective}
use mathlib.Core.List.{List, [], ◌∷◌}
use lib.Dec.{T}
use seplogic.Ra.Ura.{Ura}
use base.Fraction.{full_share}
use mir.Syntax.{Ty, ty_int, ty_bool, ty_float, ty_ptr, ty_ref, ty_array, ty_unit, ty_struct, ty_enum, ty_named, Tys, tnil, tcons, Sym, ty_param, ty_const, ty_array_p}
use mir.Val.{Val, vunit, vstruct, Vals, vnil, vcons}
use mir.Facts.{and_yes}
use base.Logic.{SProp, ent, sep, all, never, emp, id⊢, via, mono_l, mono_r, comm∗, snd∗, emp∗, never_e, mono∗}
use prog.Memory.{size, align, up, field_at}
use prog.Model.{fields_at}
use sound.Laws.{never∗}
use types.Logic.{Logic}
use types.Kit.{raw, ◌⊛◌, ◌$◌, ◌∵◌, !, qed, by, move, drop, use0, use1, use2, split, join, done}
use Rattle.walks.proofs.Focus.{Ways, put_back, self, top, under, within}
use Rattle.walks.proofs.Paths.{Path, here, into, end_of, place_in, fields_in, is_struct, is-struct}

-- ## what is there of a value: all of it, nothing, or some of each field
mutual
  pub data Apart : Type 0 where
    stays : Val → Apart
    gone : Apart
    parts : Aparts → Apart

  pub data Aparts : Type 0 where
    nil : Aparts
    cons : Apart → Aparts → Aparts

abbrev all_stay : Vals → Aparts
all_stay vnil = nil
all_stay (vcons v vs) = cons (stays v) (all_stay vs)

abbrev parts_of : Apart → Aparts
parts_of (stays v) = all_stay (fields_in v)
parts_of gone = nil
parts_of (parts ts) = ts

abbrev is_open : Apart → Bool
is_open (stays v) = is_struct v
is_open gone = false
is_open (parts ts) = true

abbrev get : Aparts → ℕ → Apart
get nil k = gone
get (cons t ts) zero = t
get (cons t ts) (suc k) = get ts k

abbrev set : Aparts → ℕ → Apart → Aparts
set nil k u = nil
set (cons t ts) zero u = cons u ts
set (cons t ts) (suc k) u = cons t (set ts k u)

abbrev get_at : {τ : Ty} → Path τ → Apart → Apart
get_at here t = t
get_at (into k e p) t = get_at p (get (parts_of t) k)

abbrev set_at : {τ : Ty} → Path τ → Apart → Apart → Apart
set_at here t u = u
set_at (into k e p) t u = parts (set (parts_of t) k (set_at p (get (parts_of t) k) u))

abbrev opens_at : {τ : Ty} → Path τ → Apart → Bool
opens_at here t = true
opens_at (into k e p) t = is_open t && opens_at p (get (parts_of t) k)

abbrev value_of : Apart → Val
value_of (stays v) = v
value_of gone = vunit
value_of (parts ts) = vunit

abbrev is-there : Apart → Bool
is-there (stays v) = true
is-there gone = false
is-there (parts ts) = false

abbrev is-gone : Apart → Bool
is-gone (stays v) = false
is-gone gone = true
is-gone (parts ts) = false

-- the whole value again
abbrev mutual
  pub whole_of : Apart → Val
  whole_of (stays v) = v
  whole_of gone = vunit
  whole_of (parts ts) = vstruct (wholes_of ts)

  pub wholes_of : Aparts → Vals
  wholes_of nil = vnil
  wholes_of (cons t ts) = vcons (whole_of t) (wholes_of ts)

abbrev mutual
  pub is_whole : Apart → Bool
  is_whole (stays v) = true
  is_whole gone = false
  is_whole (parts ts) = are_whole ts

  pub are_whole : Aparts → Bool
  are_whole nil = true
  are_whole (cons t ts) = is_whole t && are_whole ts

-- several fields
module _ {τ : Ty} where
  abbrev pub values : List (Path τ) → Apart → List Val
  values [] t = []
  values (p ∷ ps) t = value_of (get_at p t) ∷ values ps (set_at p t gone)

  abbrev pub without : List (Path τ) → Apart → Apart
  without [] t = t
  without (p ∷ ps) t = without ps (set_at p t gone)

  abbrev pub takeable : List (Path τ) → Apart → Bool
  takeable [] t = true
  takeable (p ∷ ps) t = opens_at p t && (is-there (get_at p t) && takeable ps (set_at p t gone))

  abbrev pub filled : List (Path τ) → List Val → Apart → Apart
  filled [] vs t = t
  filled (p ∷ ps) [] t = t
  filled (p ∷ ps) (v ∷ vs) t = filled ps vs (set_at p t (stays v))

  abbrev pub fillable : List (Path τ) → List Val → Apart → Bool
  fillable [] vs t = true
  fillable (p ∷ ps) [] t = true
  fillable (p ∷ ps) (v ∷ vs) t = opens_at p t && (is-gone (get_at p t) && fillable ps vs (set_at p t (stays v)))

abbrev pub field_tys : Ty → Tys
field_tys (ty_int w) = tnil
field_tys ty_bool = tnil
field_tys (ty_float f) = tnil
field_tys ty_ptr = tnil
field_tys (ty_ref κ μ τ) = tnil
field_tys (ty_array τ n) = tnil
field_tys ty_unit = tnil
field_tys (ty_struct ν τs) = τs
field_tys (ty_enum ν τss) = tnil
field_tys (ty_named ν τs) = tnil
field_tys (ty_param i) = tnil
field_tys (ty_const i) = tnil
field_tys (ty_array_p τ i) = tnil

-- ## what is owned of it
module _ {M : Type 1} {𝓤 : Ura M} (𝓛 : Logic 𝓤) where
  open 𝓛 use {H}

  abbrev ◌∗◌ : SProp 𝓤 → SProp 𝓤 → SProp 𝓤
  P ∗ Q = sep 𝓤 P Q

  abbrev ◌⊢◌ : SProp 𝓤 → SProp 𝓤 → Type 1
  P ⊢ Q = ent 𝓤 P Q

  infix 26 ◌⊢◌
  infixr 35 ◌∗◌
  -- the way from a struct's fields to the struct
  abbrev Fill : Ty → ℕ → ℕ → SProp 𝓤
  Fill τ b o = Ways 𝓛 (fields_at 𝓤 H full_share (field_tys τ) zero b o) (λ us. H.at full_share τ b o (vstruct us))

  abbrev mutual
    Lies : Apart → Ty → ℕ → ℕ → SProp 𝓤
    Lies (stays v) τ b o = H.at full_share τ b o v
    Lies gone τ b o = emp 𝓤
    Lies (parts ts) τ b o = Fill τ b o ∗ AllLie ts (field_tys τ) zero b o

    AllLie : Aparts → Tys → ℕ → ℕ → ℕ → SProp 𝓤
    AllLie nil tnil e b o = emp 𝓤
    AllLie nil (tcons τ τs) e b o = never 𝓤
    AllLie (cons t ts) tnil e b o = never 𝓤
    AllLie (cons t ts) (tcons τ τs) e b o = Lies t τ b (o + up (align τ) e) ∗ AllLie ts τs (up (align τ) e + size τ) b o

  all-stay_in : (τs : Tys) (vs : Vals) (e b o : ℕ) → fields_at 𝓤 H full_share τs e b o vs ⊢ AllLie (all_stay vs) τs e b o
  all-stay_in tnil vnil e b o = id⊢ 𝓤 (emp 𝓤)
  all-stay_in tnil (vcons v vs) e b o = id⊢ 𝓤 (never 𝓤)
  all-stay_in (tcons τ τs) vnil e b o = id⊢ 𝓤 (never 𝓤)
  all-stay_in (tcons τ τs) (vcons v vs) e b o = mono_r 𝓤 (H.at full_share τ b (o + up (align τ) e) v) (all-stay_in τs vs (up (align τ) e + size τ) b o)

  opened : (t : Apart) (ν : Sym) (τs : Tys) (b o : ℕ) → T (is_open t) → Lies t (ty_struct ν τs) b o ⊢ Lies (parts (parts_of t)) (ty_struct ν τs) b o
  opened (stays v) ν τs b o ok =
      subst (λ (u : Val). H.at full_share (ty_struct ν τs) b o u ⊢ Lies (parts (all_stay (fields_in v))) (ty_struct ν τs) b o) (is-struct v ok)
      (qed 𝓛 (raw (H.at full_share (ty_struct ν τs) b o (vstruct (fields_in v))) ∷ []) ∵
      use1 𝓛 (raw (fields_at 𝓤 H full_share τs zero b o (fields_in v)) ⊛ raw (Fill (ty_struct ν τs) b o)) (𝓛.laws.at_fields full_share ν τs b o (fields_in v)) $ split ! $
      use1 𝓛 (raw (AllLie (all_stay (fields_in v)) τs zero b o)) (all-stay_in τs (fields_in v) zero b o) $ move ! (1 ∷ 0 ∷ []) $ done !)
  opened gone ν τs b o ok = absurd ok
  opened (parts ts) ν τs b o ok = id⊢ 𝓤 (Lies (parts ts) (ty_struct ν τs) b o)

  -- one field of a struct that is taken apart
  field_of : (ts : Aparts) (τs : Tys) (e k : ℕ) (τ : Ty) (d b o : ℕ) → field_at e τs k ≡ some (τ, d)
      → AllLie ts τs e b o ⊢ Lies (get ts k) τ b (o + d) ∗ Ways 𝓛 (λ u. Lies u τ b (o + d)) (λ u. AllLie (set ts k u) τs e b o)
  field_of nil tnil e k τ d b o is = absurd (none-ne-some (τ, d) is)
  field_of nil (tcons σ τs) e k τ d b o is = never_e 𝓤 _
  field_of (cons t ts) tnil e k τ d b o is = never_e 𝓤 _
  field_of (cons t ts) (tcons σ τs) e zero τ d b o is =
      subst (λ (x : Ty × ℕ). AllLie (cons t ts) (tcons σ τs) e b o ⊢ Lies t x.0 b (o + x.1) ∗ Ways 𝓛 (λ u. Lies u x.0 b (o + x.1)) (λ u. AllLie (cons u ts) (tcons σ τs) e b o))
      (some-injective (σ, up (align σ) e) (τ, d) is)
      (top 𝓛 (AllLie ts τs (up (align σ) e + size σ) b o) (Lies t σ b (o + up (align σ) e)) (λ u. Lies u σ b (o + up (align σ) e)))
  field_of (cons t ts) (tcons σ τs) e (suc k) τ d b o is =
      under 𝓛 (Lies (get ts k) τ b (o + d)) (Lies t σ b (o + up (align σ) e)) (AllLie ts τs (up (align σ) e + size σ) b o) (λ u. Lies u τ b (o + d)) (λ u. AllLie (set ts k u) τs (up (align σ) e + size σ) b o)
      (field_of ts τs (up (align σ) e + size σ) k τ d b o is)

  part_at : {τ : Ty} (p : Path τ) (t : Apart) (b o : ℕ) → T (opens_at p t)
      → Lies t τ b o ⊢ Lies (get_at p t) (end_of p) b (place_in p o) ∗ Ways 𝓛 (λ u. Lies u (end_of p) b (place_in p o)) (λ u. Lies (set_at p t u) τ b o)
  part_at {τ} here t b o ok = self 𝓛 (λ u. Lies u τ b o) t
  part_at (into {ν} {τs} {τ} {d} k e p) t b o ok =
      let both = and_yes (is_open t) (opens_at p (get (parts_of t) k)) ok in
      via 𝓤 (Lies (parts (parts_of t)) (ty_struct ν τs) b o) (opened t ν τs b o both.0)
      (within 𝓛 _ (Lies (get (parts_of t) k) τ b (o + d)) (Lies (get_at p (get (parts_of t) k)) (end_of p) b (place_in p (o + d))) (λ u. Lies u τ b (o + d)) (λ u. Lies (parts (set (parts_of t) k u)) (ty_struct ν τs) b o)
      (λ u. Lies u (end_of p) b (place_in p (o + d))) (λ u. set_at p (get (parts_of t) k) u)
      (under 𝓛 (Lies (get (parts_of t) k) τ b (o + d)) (Fill (ty_struct ν τs) b o) (AllLie (parts_of t) τs zero b o) (λ u. Lies u τ b (o + d)) (λ u. AllLie (set (parts_of t) k u) τs zero b o)
      (field_of (parts_of t) τs zero k τ d b o e))
      (part_at p (get (parts_of t) k) b (o + d) both.1))

  mutual
    closed : (t : Apart) (τ : Ty) (b o : ℕ) → T (is_whole t) → Lies t τ b o ⊢ H.at full_share τ b o (whole_of t)
    closed (stays v) τ b o ok = id⊢ 𝓤 (H.at full_share τ b o v)
    closed gone τ b o ok = absurd ok
    closed (parts ts) τ b o ok =
        via 𝓤 (fields_at 𝓤 H full_share (field_tys τ) zero b o (wholes_of ts) ∗ Fill τ b o)
        (via 𝓤 (AllLie ts (field_tys τ) zero b o ∗ Fill τ b o) (comm∗ 𝓤 (Fill τ b o) (AllLie ts (field_tys τ) zero b o)) (mono_l 𝓤 (Fill τ b o) (all_closed ts (field_tys τ) zero b o ok)))
        (put_back 𝓛 (fields_at 𝓤 H full_share (field_tys τ) zero b o) (λ us. H.at full_share τ b o (vstruct us)) (wholes_of ts))

    all_closed : (ts : Aparts) (τs : Tys) (e b o : ℕ) → T (are_whole ts) → AllLie ts τs e b o ⊢ fields_at 𝓤 H full_share τs e b o (wholes_of ts)
    all_closed nil tnil e b o ok = id⊢ 𝓤 (emp 𝓤)
    all_closed nil (tcons τ τs) e b o ok = id⊢ 𝓤 (never 𝓤)
    all_closed (cons t ts) tnil e b o ok = id⊢ 𝓤 (never 𝓤)
    all_closed (cons t ts) (tcons τ τs) e b o ok =
        let both = and_yes (is_whole t) (are_whole ts) ok in
        mono∗ 𝓤 (closed t τ b (o + up (align τ) e) both.0) (all_closed ts τs (up (align τ) e + size τ) b o both.1)

  -- what is there, as a cell
  there : (t : Apart) (τ : Ty) (b o : ℕ) → T (is-there t) → Lies t τ b o ⊢ H.at full_share τ b o (value_of t)
  there (stays v) τ b o ok = id⊢ 𝓤 (H.at full_share τ b o v)
  there gone τ b o ok = absurd ok
  there (parts ts) τ b o ok = absurd ok

  module _ {τ : Ty} (b o : ℕ) where
    abbrev pub Fields : List (Path τ) → List Val → SProp 𝓤
    Fields [] vs = emp 𝓤
    Fields (p ∷ ps) [] = never 𝓤
    Fields (p ∷ ps) (v ∷ vs) = H.at full_share (end_of p) b (place_in p o) v ∗ Fields ps vs

    taken : (ps : List (Path τ)) (t : Apart) → T (takeable ps t) → Lies t τ b o ⊢ Fields ps (values ps t) ∗ Lies (without ps t) τ b o
    taken [] t ok = emp∗ 𝓤 (Lies t τ b o)
    taken (p ∷ ps) t ok =
        let t₀ = and_yes (opens_at p t) (is-there (get_at p t) && takeable ps (set_at p t gone)) ok in
        let t₁ = and_yes (is-there (get_at p t)) (takeable ps (set_at p t gone)) t₀.1 in
        qed 𝓛 (raw (Lies t τ b o) ∷ []) ∵
        use1 𝓛 (raw (Lies (get_at p t) (end_of p) b (place_in p o)) ⊛ raw (Ways 𝓛 (λ u. Lies u (end_of p) b (place_in p o)) (λ u. Lies (set_at p t u) τ b o))) (part_at p t b o t₀.0) $ split ! $
        use1 𝓛 (raw (H.at full_share (end_of p) b (place_in p o) (value_of (get_at p t)))) (there (get_at p t) (end_of p) b (place_in p o) t₁.0) $ move ! (1 ∷ []) $
        use0 𝓛 (raw (emp 𝓤)) (id⊢ 𝓤 (emp 𝓤)) $ use2 𝓛 (raw (Lies (set_at p t gone) τ b o)) (put_back 𝓛 (λ u. Lies u (end_of p) b (place_in p o)) (λ u. Lies (set_at p t u) τ b o) gone) $
        use1 𝓛 (raw (Fields ps (values ps (set_at p t gone))) ⊛ raw (Lies (without ps (set_at p t gone)) τ b o)) (taken ps (set_at p t gone) t₁.1) $ split ! $
        move ! (2 ∷ 0 ∷ []) $ join ! $ done !

    given : (ps : List (Path τ)) (vs : List Val) (t : Apart) → T (fillable ps vs t) → Fields ps vs ∗ Lies t τ b o ⊢ Lies (filled ps vs t) τ b o
    given [] vs t ok = snd∗ 𝓤 (emp 𝓤) (Lies t τ b o)
    given (p ∷ ps) [] t ok = never∗ 𝓤 (Lies t τ b o) (Lies t τ b o)
    given (p ∷ ps) (v ∷ vs) t ok =
        let t₀ = and_yes (opens_at p t) (is-gone (get_at p t) && fillable ps vs (set_at p t (stays v))) ok in
        let t₁ = and_yes (is-gone (get_at p t)) (fillable ps vs (set_at p t (stays v))) t₀.1 in
        qed 𝓛 ((raw (H.at full_share (end_of p) b (place_in p o) v) ⊛ raw (Fields ps vs)) ∷ raw (Lies t τ b o) ∷ []) ∵ split ! $ move ! (2 ∷ []) $
        use1 𝓛 (raw (Lies (get_at p t) (end_of p) b (place_in p o)) ⊛ raw (Ways 𝓛 (λ u. Lies u (end_of p) b (place_in p o)) (λ u. Lies (set_at p t u) τ b o))) (part_at p t b o t₀.0) $ split ! $ drop ! $
        move ! (1 ∷ 0 ∷ []) $ use2 𝓛 (raw (Lies (set_at p t (stays v)) τ b o)) (put_back 𝓛 (λ u. Lies u (end_of p) b (place_in p o)) (λ u. Lies (set_at p t u) τ b o) (stays v)) $
        move ! (1 ∷ 0 ∷ []) $ by ! (given ps vs (set_at p t (stays v)) t₁.1)

    -- the struct's cell, with the value v, without the fields
    unfoldable pub Rest : List (Path τ) → Val → SProp 𝓤
    Rest ps v = Lies (without ps (stays v)) τ b o

    pub fields_out : (ps : List (Path τ)) (v : Val) → T (takeable ps (stays v)) → H.at full_share τ b o v ⊢ Fields ps (values ps (stays v)) ∗ Rest ps v
    unfolding Rest
    fields_out ps v ok = taken ps (stays v) ok

    pub fields_back : (ps : List (Path τ)) (v : Val) (us : List Val) → T (fillable ps us (without ps (stays v))) → T (is_whole (filled ps us (without ps (stays v))))
        → Fields ps us ∗ Rest ps v ⊢ H.at full_share τ b o (whole_of (filled ps us (without ps (stays v))))
    unfolding Rest
    fields_back ps v us ok all =
        via 𝓤 (Lies (filled ps us (without ps (stays v))) τ b o) (given ps us (without ps (stays v)) ok) (closed (filled ps us (without ps (stays v))) τ b o all)
