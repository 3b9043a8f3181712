-- A struct of numbers behind a `&mut`: opened to its cell, and closed with any value. What is to be known of a value for that, its
-- well-typed machine value tells.
--     Told F L         of a field: its machine value tells what its row says of it.        number, truth, column     of numbers, bools and arrays of numbers
--     told-struct      of a declared struct, from its fields'
--     opens-to, closes-to      the borrow
-- Assumes `Logic` where there is a context, and nothing else.
use mathlib.Core.Path.{refl, sym, ◌∙◌}
use Prim.Native.Nat.{ℕ}
use mathlib.Core.Bool.{Bool}
use mathlib.Core.List.{List, [], ◌∷◌, map}
use lib.Dec.{T}
use lib.ListN.{length-map}
use seplogic.Ra.Ura.{Ura}
use base.Fraction.{full_share}
use mir.Syntax.{Width, Ty, ty_int, ty_bool, ty_array, Tys, tnil, tcons}
use mir.Val.{Val, vint, vbool, vstruct, Vals, vnil, vcons, of_list, WT, WTs, has_ty, has_tys}
use mir.Facts.{and_yes}
use base.Stored.{Gv}
use base.Fml.{Lft, GName, Share, fat, flft, fobs, fauth, fbor, fobor}
use types.Logic.{Logic}
use types.Kit.{Goal, Soaks, Item, ‵, given, Step, step, ◌$◌, Go, !, move, drop, use1, rewrite, learn}
use types.SemTy.{Body}
use denote.RattleType.{RattleType, Valss, flat}
use denote.Shadow.{shadow}
use denote.Laws.{Is, Makes, shows}
use denote.Lowered.{Lowered}
use denote.Memory.{mem, lone, cell_at}
use denote.Plain.{UInt, Boolean}
use denote.Array.{Array, each}
use denote.Steps.{opens, closes, owned}
use denote.Struct.Steps.{spelt}
use denote.Struct.Field.{Field, rows}
use denote.Struct.Values.{Values, intos}
use denote.Struct.Struct.{AreAll}
use denote.Struct.Declared.{row}
use denote.Struct.Record.{Record, Propositions, declared}
use denote.Struct.Laws.{FLaws, Lawss, Laws}
use Rattle.walks.proofs.Columns.{val, column-is}

abbrev pub Typed : Ty → Val → Type 0
Typed τ v = T (has_ty τ v) × WT v

-- ## what a machine value tells
abbrev pub Told : (F : Field) → FLaws F → Type 0
Told F L = (x : F.Value) → Typed (lone F.row.mir) (L.low x) → Is F.row (F.into x) (L.low x ∷ [])

pub number : (w : Width) (x : ℕ) → Typed (ty_int w) (vint w x) → Is (UInt w) x (vint w x ∷ [])
number w x t = (refl, t.1.fits)

pub truth : (x : Bool) → Typed ty_bool (vbool x) → Is Boolean x (vbool x ∷ [])
truth x t = refl

-- as a field of a struct has it
each_in : (w : Width) (xs : List ℕ) (us : List Val) → shadow (each ℕ (UInt w).own_val xs us) → shadow (each ℕ (UInt w).own_val (map (λ v. v) xs) us)
each_in w [] [] s = s
each_in w [] (u ∷ us) s = s
each_in w (x ∷ xs) [] s = s
each_in w (x ∷ xs) (u ∷ us) s = (s.0, each_in w xs us s.1)

pub column : (w : Width) (n : ℕ) (xs : List ℕ) → Typed (ty_array (ty_int w) n) (val w xs) → Is (Array (UInt w) n) (map (λ v. v) xs) (val w xs ∷ [])
column w n xs t =
    let p = column-is w n xs t in
    (p.0, ((p.1.0.0, length-map xs (λ v. v) ∙ p.1.0.1), each_in w xs p.0 p.1.1))

-- ## of a struct
abbrev pub AllTold : (Fs : List Field) → Lawss Fs → Type 0
AllTold [] Ls = Unit {0}
AllTold (F ∷ Fs) Ls = Told F Ls.0 × AllTold Fs Ls.1

abbrev pub AllTyped : Tys → Vals → Type 0
AllTyped tnil vs = Unit {0}
AllTyped (tcons τ τs) vnil = Unit {0}
AllTyped (tcons τ τs) (vcons v vs) = Typed τ v × AllTyped τs vs

pub all_typed : (τs : Tys) (vs : Vals) → T (has_tys τs vs) × WTs vs → AllTyped τs vs
all_typed tnil vs t = tt
all_typed (tcons τ τs) vnil t = tt
all_typed (tcons τ τs) (vcons v vs) t =
    let both = and_yes (has_ty τ v) (has_tys τs vs) t.0 in
    ((both.0, t.1.0), all_typed τs vs (both.1, t.1.1))

abbrev FieldsTyped : (Fs : List Field) → Lawss Fs → Values Fs → Type 0
FieldsTyped [] Ls xs = Unit {0}
FieldsTyped (F ∷ Fs) Ls xs = Typed (lone F.row.mir) (Ls.0.low xs.0) × FieldsTyped Fs Ls.1 xs.1

abbrev pub lowest : (Fs : List Field) → Lawss Fs → Values Fs → Valss (rows Fs)
lowest [] Ls xs = tt
lowest (F ∷ Fs) Ls xs = (Ls.0.low xs.0 ∷ [], lowest Fs Ls.1 xs.1)

told-all : (Fs : List Field) (Ls : Lawss Fs) → AllTold Fs Ls → (xs : Values Fs) → FieldsTyped Fs Ls xs → AreAll (rows Fs) (intos Fs xs) (lowest Fs Ls xs)
told-all [] Ls ts xs t = tt
told-all (F ∷ Fs) Ls ts xs t = (ts.0 xs.0 t.0, told-all Fs Ls.1 ts.1 xs.1 t.1)

pub told-struct : (N : Record) (props : Propositions N) (L : Laws (declared N props)) → AllTold N.parts L → (d : N.D) → FieldsTyped N.parts L (N.as_values d)
    → Is (row (declared N props)) d (vstruct (of_list (flat (rows N.parts) (lowest N.parts L (N.as_values d)))) ∷ [])
told-struct N props L ts d t = (lowest N.parts L (N.as_values d), (refl, told-all N.parts L ts (N.as_values d) t))

-- ## the borrow
module _ {M : Type 1} {𝓤 : Ura M} {𝓛 : Logic 𝓤} {Γ : List (Item 𝓤)} {G : Goal 𝓤 𝓛.H} where
  pub opens-to : Go {0} → Soaks G → (R : RattleType) (L : Lowered R) {κ : Lft} {q : Share} {h : R.Denot} {γ : GName} (b o : ℕ)
      → Step (Go {0}) 𝓛 (‵ (fat full_share L.mir b o (L.lowered h)) ∷ ‵ (fobor κ q (Body (mem R) b o γ)) ∷ ‵ (fobs γ (R.coded.code h)) ∷ ‵ (fauth γ (R.coded.code h)) ∷ Γ) G
      (‵ (fobs γ (R.coded.code h)) ∷ ‵ (fbor κ (Body (mem R) b o γ)) ∷ ‵ (flft κ q) ∷ Γ) G
  opens-to t z R L {κ} {q} {h} b o =
      step (λ s. opens ! z R {h = h} b o (λ vs. spelt ! R (Is R) (shows 𝓛 R) (λ d. L.lowered d ∷ []) L.val_is full_share h vs b o $ move ! (1 ∷ []) $ drop ! $
      rewrite ! 0 (λ (τs : List Ty). ‵ (cell_at full_share τs (L.lowered h ∷ []) b o)) L.layout_is refl $
      use1 𝓛 (‵ (fat full_share L.mir b o (L.lowered h))) (𝓛.laws.raw_at full_share L.mir b o (L.lowered h)) $ s))

  pub closes-to : Go {0} → Soaks G → (R : RattleType) (L : Lowered R) → Makes 𝓛 R (Is R) → (h : R.Denot) → (Typed L.mir (L.lowered h) → Is R h (L.lowered h ∷ []))
      → {κ : Lft} {q : Share} {u v : Gv} {γ : GName} (b o : ℕ)
      → Step (Go {0}) 𝓛 (‵ (fobs γ (R.coded.code h)) ∷ ‵ (fbor κ (Body (mem R) b o γ)) ∷ ‵ (flft κ q) ∷ Γ) G
      (‵ (fat full_share L.mir b o (L.lowered h)) ∷ ‵ (fobor κ q (Body (mem R) b o γ)) ∷ ‵ (fobs γ u) ∷ ‵ (fauth γ v) ∷ Γ) G
  closes-to t z R L makes h told {κ} {q} {u} {v} {γ} b o =
      step (λ s. use1 𝓛 (given (Typed L.mir (L.lowered h)) (‵ (fat full_share L.mir b o (L.lowered h)))) (𝓛.laws.at_wt full_share L.mir b o (L.lowered h)) $ learn ! (λ typed.
      use1 𝓛 (‵ (cell_at full_share (L.mir ∷ []) (L.lowered h ∷ []) b o)) (𝓛.laws.at_raw full_share L.mir b o (L.lowered h)) $
      rewrite ! 0 (λ (τs : List Ty). ‵ (cell_at full_share τs (L.lowered h ∷ []) b o)) (sym L.layout_is) refl $
      owned ! R (Is R) makes h (L.lowered h ∷ []) (told typed) $ move ! (1 ∷ 0 ∷ []) $ closes ! z R h (L.lowered h ∷ []) b o $ s))
