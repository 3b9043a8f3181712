-- The arguments of a call that own nothing but facts: had for nothing, and nothing of them left.
--     Free             a formula that is had for nothing;  number, struct    of a number and of a struct;  figures    of the numbers where paths lead
--     frees_in         several of them, in front of what else is handed on
--     asked, unasked   what a call asks beside what it is handed: a fact, or nothing
--     nothing-of, all_plain        nothing is said of so many arguments that are plain
-- Assumes `Logic`.
use mathlib.Core.Path.{refl}
use Prim.Native.Nat.{ℕ, zero, suc}
use mathlib.Core.Bool.{Bool, true, ◌&&◌}
use mathlib.Core.List.{List, [], ◌∷◌}
use lib.Dec.{T}
use seplogic.Ra.Ura.{Ura}
use mir.Syntax.{Width, Ty}
use mir.Val.{Val, vunit, vbool, vint, vfloat, vptr, vstruct, WT, Fits, vcode}
use mir.Facts.{and_yes}
use base.Logic.{SProp, ent, sep, emp, id⊢, via, comm∗, snd∗, mono∗, mono_r, emp∗}
use base.Fml.{Fml, ftrue, fsep}
use types.Logic.{Logic, sem}
use contract.Monad.{fact, fact_i}
use denote.RattleType.{RattleType}
use denote.Laws.{Is, Makes}
use denote.Plain.{UInt, uint_Makes}
use Rattle.walks.proofs.Paths.{Path, get_in, opens, wt_in}

-- ## numbers behind a reference, as arguments: one for each path, in front of the others
abbrev pub Numbered : {τ : Ty} → List (Path τ) → Type 0 → Type 0
Numbered [] X = X
Numbered (p ∷ ps) X = ℕ × Numbered ps X

abbrev number_of : Val → ℕ
number_of vunit = 0
number_of (vbool b) = 0
number_of (vint w n) = n
number_of (vfloat f x) = 0
number_of (vptr b o) = 0
number_of (vcode t) = 0
number_of (vstruct vs) = 0

abbrev pub numbers_at : {τ : Ty} (v : Val) (ps : List (Path τ)) (X : Type 0) → X → Numbered ps X
numbers_at v [] X x = x
numbers_at v (p ∷ ps) X x = (number_of (get_in p v), numbers_at v ps X x)

-- what a number owns, and nothing for another value
abbrev own_of : Val → Fml
own_of vunit = ftrue
own_of (vbool b) = ftrue
own_of (vint w n) = (UInt w).own_val n (vint w n ∷ [])
own_of (vfloat f x) = ftrue
own_of (vptr b o) = ftrue
own_of (vcode t) = ftrue
own_of (vstruct vs) = ftrue

abbrev pub all_open : {τ : Ty} → List (Path τ) → Val → Bool
all_open [] v = true
all_open (p ∷ ps) v = opens p v && all_open ps v

-- ## what is said of plain arguments
-- what a call says of n arguments that are plain, and of the rest
abbrev pub Plains : ℕ → Fml → Fml
Plains zero F = F
Plains (suc n) F = fsep ftrue (Plains n F)

-- what some arguments own, and the rest
abbrev pub Ahead : List Fml → Fml → Fml
Ahead [] F = F
Ahead (G ∷ Gs) F = fsep G (Ahead Gs F)

-- it says no last value of them: a place for each in front of the others'
abbrev pub Units : ℕ → Type 0 → Type 0
Units zero X = X
Units (suc n) X = Unit {0} × Units n X

abbrev pub behind : (n : ℕ) (X : Type 0) → Units n X → X
behind zero X x = x
behind (suc n) X x = behind n X x.1

module _ {M : Type 1} {𝓤 : Ura M} (𝓛 : Logic 𝓤) where
  pub record Free : Type 2 where
    pub says : Fml
    pub had : ent 𝓤 (emp 𝓤) (sem 𝓛 says)

  abbrev pub Frees : List Free → Fml → Fml
  Frees [] F = F
  Frees (x ∷ xs) F = fsep x.says (Frees xs F)

  abbrev pub count : List Free → ℕ
  count [] = zero
  count (x ∷ xs) = suc (count xs)

  pub frees_in : (xs : List Free) (F : Fml) → ent 𝓤 (sem 𝓛 F) (sem 𝓛 (Frees xs F))
  frees_in [] F = id⊢ 𝓤 (sem 𝓛 F)
  frees_in (x ∷ xs) F = via 𝓤 (sep 𝓤 (emp 𝓤) (sem 𝓛 F)) (emp∗ 𝓤 (sem 𝓛 F)) (mono∗ 𝓤 x.had (frees_in xs F))

  pub nothing-of : (n : ℕ) (F : Fml) → ent 𝓤 (sem 𝓛 (Plains n F)) (sem 𝓛 F)
  nothing-of zero F = id⊢ 𝓤 (sem 𝓛 F)
  nothing-of (suc n) F = via 𝓤 (sem 𝓛 (Plains n F)) (snd∗ 𝓤 (emp 𝓤) (sem 𝓛 (Plains n F))) (nothing-of n F)

  pub all_plain : (n : ℕ) (F : Fml) → ent 𝓤 (sem 𝓛 F) (sem 𝓛 (Plains n F))
  all_plain zero F = id⊢ 𝓤 (sem 𝓛 F)
  all_plain (suc n) F = via 𝓤 (sem 𝓛 (Plains n F)) (all_plain n F) (emp∗ 𝓤 (sem 𝓛 (Plains n F)))

  pub past : (Gs : List Fml) (F : Fml) → ent 𝓤 (sem 𝓛 (Ahead Gs F)) (sem 𝓛 F)
  past [] F = id⊢ 𝓤 (sem 𝓛 F)
  past (G ∷ Gs) F = via 𝓤 (sem 𝓛 (Ahead Gs F)) (snd∗ 𝓤 (sem 𝓛 G) (sem 𝓛 (Ahead Gs F))) (past Gs F)

  abbrev pub number : {w : Width} {n : ℕ} → Fits w n → Free
  number {w} {n} fit = record { says = (UInt w).own_val n (vint w n ∷ []); had = uint_Makes 𝓛 w n (vint w n ∷ []) (refl, fit.fits) }

  abbrev pub struct : (R : RattleType) → Makes 𝓛 R (Is R) → (h : R.Denot) (v : Val) → Is R h (v ∷ []) → Free
  struct R makes h v is = record { says = R.own_val h (v ∷ []); had = makes h (v ∷ []) is }

  module _ where
    pub had-of : (v : Val) → WT v → ent 𝓤 (emp 𝓤) (sem 𝓛 (own_of v))
    had-of vunit t = id⊢ 𝓤 (emp 𝓤)
    had-of (vbool b) t = id⊢ 𝓤 (emp 𝓤)
    had-of (vint w n) t = uint_Makes 𝓛 w n (vint w n ∷ []) (refl, t.fits)
    had-of (vfloat f x) t = id⊢ 𝓤 (emp 𝓤)
    had-of (vptr b o) t = id⊢ 𝓤 (emp 𝓤)
    had-of (vcode u) t = id⊢ 𝓤 (emp 𝓤)
    had-of (vstruct vs) t = id⊢ 𝓤 (emp 𝓤)

    abbrev pub figures : {τ : Ty} (v : Val) → WT v → (ps : List (Path τ)) → T (all_open ps v) → List Free → List Free
    figures v wt [] ok xs = xs
    figures v wt (p ∷ ps) ok xs =
        let both = and_yes (opens p v) (all_open ps v) ok in
        record { says = own_of (get_in p v); had = had-of (get_in p v) (wt_in p v both.0 wt) } ∷ figures v wt ps both.1 xs

  pub unasked : (P : SProp 𝓤) → ent 𝓤 P (sep 𝓤 P (emp 𝓤))
  unasked P = via 𝓤 (sep 𝓤 (emp 𝓤) P) (emp∗ 𝓤 P) (comm∗ 𝓤 (emp 𝓤) P)

  pub asked : {φ : Type 0} → φ → (P : SProp 𝓤) → ent 𝓤 P (sep 𝓤 P (fact 𝓤 φ))
  asked {φ} h P = via 𝓤 (sep 𝓤 P (emp 𝓤)) (unasked P) (mono_r 𝓤 P (fact_i 𝓤 φ (emp 𝓤) h))
