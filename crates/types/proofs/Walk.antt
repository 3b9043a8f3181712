-- What the proofs by hand share, of functions that borrow a struct or a slice of structs. Assumes `Logic`.
--     tests                    the test at the head of a `while`: where it holds the rest of the turn runs, and where it fails the loop is left
--     part_in, part_out        a cell that holds a struct's machine value, and the struct as it lies in memory: a local that is lent
--     map_same                 changing each member of a list into itself
--     array_in, array_out      a cell that holds an array's machine value, and the row of its elements
use mathlib.Core.Path.{◌≡◌, refl, ap}
use mathlib.Core.Bool.{Bool, not}
use mathlib.Core.List.{List, [], ◌∷◌, map}
use Prim.Native.Nat.{ℕ}
use lib.Dec.{T as Holds}
use lib.ListN.{length}
use seplogic.Ra.Ura.{Ura}
use mir.Syntax.{Ty, Body, Opd as Operand, skip, seq, cond, exit, ty_array}
use mir.Val.{Val, vbool}
use base.Logic.{ent, guard}
use base.Fml.{Share, fsep, fat}
use prog.Wp.{exits, Env, Calls, Loops}
use types.Logic.{Logic, sem}
use types.Kit.{Item, Post, post, prop, runs, Seq, ‵, ◌$◌, ◌∵◌, !, qed, move, use1, drop, check, fsplit, fjoin, fpick, fpack, feq_i, done}
use types.Run.{Opd, first, skips, jumps, branches}
use types.Share.{arr_parts}
use denote.RattleType.{RattleType}
use denote.Laws.{Is, Tells, Makes, shows}
use denote.Memory.{lone, cell_at, part_at, shares, part_of}
use denote.Array.{Array, array_vals, Array-Tells, Array-Makes}
use denote.ArrayMemory.{Single, Array-apart, Array-whole}
use denote.Index as index
use denote.Steps.{only, owned, peeks}
use denote.Struct.Steps.{spelt}
use denote.Struct.Struct.{Plains}
use denote.Struct.Declared.{Declared, fields, row}
use denote.Struct.Laws.{Laws, val, vals, tells, makes}

module _ {M : Type 1} {𝓤 : Ura M} {𝓛 : Logic 𝓤} {K : Type 0} {Γ : List (Item 𝓤)} {C : Calls 𝓤 𝓛.H} {Λ : Loops 𝓤 𝓛.H} {E : Env 𝓤 𝓛.H} {q : Post 𝓤 𝓛.H} where
  open 𝓛 use {H}

  pub tests : K → {c : Operand} {n : ℕ} {b : Body} {y : Bool} → Opd K 𝓛 Γ E c (vbool y) → (Holds y → Seq K 𝓛 Γ (runs C Λ E b q)) → (Holds (not y) → Seq K 𝓛 Γ (prop (post 𝓤 H q (exits n))))
      → Seq K 𝓛 Γ (runs C Λ E (seq (cond c skip (exit n)) b) q)
  tests t o held failed = first t $ branches t o (λ h. skips t $ record { prf = (held h).prf }) (λ z. jumps t $ record { prf = (failed z).prf })

-- a struct of plain fields
module _ (T : Declared) where
  abbrev R : RattleType
  R = row T

  abbrev τ : Ty
  τ = lone R.mir

module _ (T : Declared) (L : Laws T) {M : Type 1} {𝓤 : Ura M} (𝓛 : Logic 𝓤) (q : Share) (h : T.D) (b o : ℕ) where
  pub part_in : Plains (fields T) → Is (R T) h (vals T L h) → ent 𝓤 (sem 𝓛 (fat q (τ T) b o (val T L h))) (sem 𝓛 (part_at (R T) q h b o))
  unfolding part_of
  part_in plain is =
      qed 𝓛 (‵ (fat q (τ T) b o (val T L h)) ∷ []) ∵ use1 𝓛 (‵ (cell_at q (R T).mir (vals T L h) b o)) (𝓛.laws.at_raw q (τ T) b o (val T L h)) $
      owned ! (R T) (Is (R T)) (makes T plain 𝓛) h (vals T L h) is $ move ! (1 ∷ 0 ∷ []) $ fjoin ! $
      fpack ! (List Val) (λ vs. fsep (cell_at q (R T).mir vs b o) ((R T).own_val h vs)) (vals T L h) $ done !

  pub part_out : ent 𝓤 (sem 𝓛 (part_at (R T) q h b o)) (guard 𝓤 (Is (R T) h (vals T L h)) (sem 𝓛 (fat q (τ T) b o (val T L h))))
  unfolding part_of
  part_out =
      qed 𝓛 (‵ (part_at (R T) q h b o) ∷ []) ∵ fpick ! (λ vs. fsplit ! $
      spelt ! (R T) (Is (R T)) (shows 𝓛 (R T)) (vals T L) (tells T L) q h vs b o $
      move ! (1 ∷ []) $ peeks ! (R T) (Is (R T)) (shows 𝓛 (R T)) h (vals T L h) (λ is. drop ! $ check ! is $
      use1 𝓛 (‵ (fat q (τ T) b o (val T L h))) (𝓛.laws.raw_at q (τ T) b o (val T L h)) $ done !))

-- an array of numbers in a field of a struct is had with its elements taken into it, as they are
pub map_same : {X : Type 0} (l : List X) → map (λ (a : X). a) l ≡ l
map_same [] = refl
map_same {X} (a ∷ l) = ap (λ (k : List X). a ∷ k) (map_same l)

-- an array of elements, each with its machine value alone in a list
module _ (E : RattleType) (spell : E.Denot → List Val) where
  abbrev pub array_val : List E.Denot → Val
  array_val xs = only (array_vals spell xs)

module _ (E : RattleType) (spell : E.Denot → List Val) {M : Type 1} {𝓤 : Ura M} (𝓛 : Logic 𝓤) (q : Share) (m : ℕ) (xs : List E.Denot) (b o : ℕ) where
  abbrev S : RattleType
  S = Array E m

  abbrev σ : Ty
  σ = ty_array (lone E.mir) m

  abbrev us : List Val
  us = array_vals spell xs

  pub array_in : Single E.mir → Makes 𝓛 E (Is E) → Is S xs us → ent 𝓤 (sem 𝓛 (fat q σ b o (only us))) (sem 𝓛 (index.row E q xs b o))
  unfolding part_of
  array_in one made is =
      qed 𝓛 (‵ (fat q σ b o (only us)) ∷ []) ∵ use1 𝓛 (‵ (cell_at q S.mir us b o)) (𝓛.laws.at_raw q σ b o (only us)) $
      owned ! S (Is S) (Array-Makes 𝓛 E made m) xs us is $ move ! (1 ∷ 0 ∷ []) $ fjoin ! $
      fpack ! (List Val) (λ vs. fsep (cell_at q S.mir vs b o) (S.own_val xs vs)) us $
      use1 𝓛 (‵ ((arr_parts (shares E) m).part q xs b o)) (Array-apart 𝓛 E q one m xs b o) $ fsplit ! $ drop ! $ done !

  pub array_out : Tells E (Is E) spell → length xs ≡ m → ent 𝓤 (sem 𝓛 (index.row E q xs b o)) (guard 𝓤 (Is S xs us) (sem 𝓛 (fat q σ b o (only us))))
  unfolding part_of
  array_out tell len =
      qed 𝓛 (‵ (index.row E q xs b o) ∷ []) ∵ feq_i ! ℕ (length xs) m len $ fjoin ! $ use1 𝓛 (‵ (part_at S q xs b o)) (Array-whole 𝓛 E q m xs b o) $ fpick ! (λ vs. fsplit ! $
      spelt ! S (Is S) (shows 𝓛 S) (array_vals spell) (Array-Tells E spell tell m) q xs vs b o $
      move ! (1 ∷ []) $ peeks ! S (Is S) (shows 𝓛 S) xs us (λ is. drop ! $ check ! is $
      use1 𝓛 (‵ (fat q σ b o (only us))) (𝓛.laws.raw_at q σ b o (only us)) $ done !))
