-- Columns of numbers, arrays that lie in a struct, lent in their places to one call, and taken back: one law for any number of them.
--     Column           an array of numbers at a place, lent as `&mut [uN; n]`, or as `&[uN; n]` where it is shared
--     Cells cs         their cells
--     lends            cells, and what else goes to the call  ⊢  for each column a new lifetime with its token and what a reference for it owns, and the lender's part
--     backs            the tokens, the lender's parts and what the call says of the last values  ⊢  the cells with those values
-- Assumes `Logic`.
use mathlib.Core.Path.{◌≡◌, refl, ap}
use Prim.Native.Nat.{ℕ, zero, suc}
use mathlib.Core.Bool.{Bool, true, false}
use mathlib.Core.List.{List, [], ◌∷◌, map}
use lib.Dec.{T}
use lib.ListN.{length}
use seplogic.Ra.Ura.{Ura}
use base.Fraction.{full_share}
use mir.Syntax.{Width, Lifetime, named, ty_int, ty_array}
use mir.Val.{Val, vint, vptr, of_list, WT, WTs, all_n, has_ty}
use mir.Facts.{and_yes}
use base.Logic.{SProp, ent, sep, ex, emp}
use base.Fml.{Lft, GName, Share, Fml, ftrue, fsep, flft, fdead, fat, fres, flent}
use types.Logic.{Logic, sem}
use types.Kit.{‵, raw, ◌⊛◌, some, later, given, ◌$◌, ◌∵◌, !, qed, move, drop, use1, use2, use3, split, join, pick, learn, fsplit, fjoin, fpick, fpack, await, updating, now as at_once, show, done}
use types.Tokens.{lft_new, lft_end, lent_back}
use types.SemTy.{Body}
use denote.RattleType.{RattleType}
use denote.Shadow.{shadow}
use denote.Laws.{Is, shows}
use denote.Memory.{mem, cell_at, part_at, part_of}
use denote.Plain.{UInt, uint_vals, uint_Tells, uint_Makes}
use denote.Array.{Array, each, array_vals, Array-Tells, Array-Makes}
use denote.Ref.{Bor, MutBor, ShrRef, MutRef}
use denote.Copied.{uint_Copied, Array-Copied}
use denote.Lend.{lends_ref, ref_back, lends_free}
use denote.Steps.{only, owned}
use denote.Struct.Steps.{spelt}

pub record Column : Type 0 where
  pub width : Width
  pub size : ℕ
  pub shared : Bool
  pub place : ℕ
  pub now : List ℕ

abbrev pub row : Column → RattleType
row c = Array (UInt c.width) c.size

-- a column's machine value, alone in a list
abbrev pub vals : Width → List ℕ → List Val
vals w xs = array_vals (uint_vals w) xs

abbrev pub val : Width → List ℕ → Val
val w xs = only (vals w xs)

-- ## a well-typed machine value says what is known of a column
count-is : (p : Val → Bool) (w : Width) (n : ℕ) (xs : List ℕ) → T (all_n p n (of_list (map (λ x. vint w x) xs))) → length xs ≡ n
count-is p w zero [] t = refl
count-is p w zero (x ∷ xs) t = absurd t
count-is p w (suc n) [] t = absurd t
count-is p w (suc n) (x ∷ xs) t = ap suc (count-is p w n xs (and_yes (p (vint w x)) (all_n p n (of_list (map (λ z. vint w z) xs))) t).1)

each-is : (w : Width) (xs : List ℕ) → WTs (of_list (map (λ x. vint w x) xs)) → shadow (each ℕ (UInt w).own_val xs (map (λ x. vint w x) xs))
each-is w [] t = tt
each-is w (x ∷ xs) t = ((refl, t.0.fits), each-is w xs t.1)

pub column-is : (w : Width) (n : ℕ) (xs : List ℕ) → T (has_ty (ty_array (ty_int w) n) (val w xs)) × WT (val w xs) → Is (Array (UInt w) n) xs (vals w xs)
column-is w n xs t = (map (λ x. vint w x) xs, ((refl, count-is (has_ty (ty_int w)) w n xs t.0), each-is w xs t.1))

-- ## what a call is handed, and what it leaves
-- the lifetime and the name under which each column is lent
abbrev pub Names : List Column → Type 0
Names [] = Unit {0}
Names (c ∷ cs) = (ℕ × GName) × Names cs

-- a reference that is shared has no name
abbrev pub Ref : Bool → Type 0 → Type 0
Ref true X = Bor X
Ref false X = MutBor X

abbrev pub lent_as : (s : Bool) → Lifetime → Lft → (R : RattleType) → Ref s R.Denot → List Val → Fml
lent_as true ℓ κ R x vs = (ShrRef ℓ κ R).own_val x vs
lent_as false ℓ κ R x vs = (MutRef ℓ κ R).own_val x vs

-- a `&mut` ends with a last list
abbrev pub Ending : Bool → Type 0
Ending true = Unit {0}
Ending false = List ℕ

abbrev pub last_of : (s : Bool) → List ℕ → Ending s → List ℕ
last_of true xs w = xs
last_of false xs w = w

abbrev pub Endings : List Column → Type 0 → Type 0
Endings [] X = X
Endings (c ∷ cs) X = Ending c.shared × Endings cs X

abbrev pub lasting : (c : Column) → Ending c.shared → Column
lasting c w = record { width = c.width; size = c.size; shared = c.shared; place = c.place; now = last_of c.shared c.now w }

abbrev pub endeds : (X : Type 0) (cs : List Column) → Endings cs X → List Column
endeds X [] ws = []
endeds X (c ∷ cs) ws = lasting c ws.0 ∷ endeds X cs ws.1

abbrev pub vals_of : List Column → List Val
vals_of [] = []
vals_of (c ∷ cs) = val c.width c.now ∷ vals_of cs

-- a tuple that begins with a reference for each column
abbrev pub Refs : List Column → Type 0 → Type 0
Refs [] Y = Y
Refs (c ∷ cs) Y = Ref c.shared (List ℕ) × Refs cs Y

-- a tuple that begins with an X for each column
abbrev pub For : Type 0 → List Column → Type 0 → Type 0
For X [] Y = Y
For X (c ∷ cs) Y = X × For X cs Y

abbrev pub lifetimes : (Y : Type 0) (cs : List Column) → Names cs → Y → For Lft cs Y
lifetimes Y [] ns y = y
lifetimes Y (c ∷ cs) ns y = (ns.0.0 ∷ [], lifetimes Y cs ns.1 y)

abbrev pub wholes : (Y : Type 0) (cs : List Column) → Y → For Share cs Y
wholes Y [] y = y
wholes Y (c ∷ cs) y = (full_share, wholes Y cs y)

module _ (b : ℕ) where
  abbrev ref_at : (s : Bool) → ℕ → GName → List ℕ → Ref s (List ℕ)
  ref_at true o δ xs = record { ref_ptr = (b, o); now = xs }
  ref_at false o δ xs = record { ref_ptr = (b, o); ghost_name = δ; now = xs }

  abbrev ref : (c : Column) → GName → Ref c.shared (List ℕ)
  ref c δ = ref_at c.shared c.place δ c.now

  abbrev pub refs : (Y : Type 0) (cs : List Column) → Names cs → Y → Refs cs Y
  refs Y [] ns y = y
  refs Y (c ∷ cs) ns y = (ref c ns.0.1, refs Y cs ns.1 y)

  abbrev pub pointers : (Y : Type 0) (cs : List Column) → Y → For (List Val) cs Y
  pointers Y [] y = y
  pointers Y (c ∷ cs) y = (vptr b c.place ∷ [], pointers Y cs y)

  abbrev pub Lent : ℕ → (cs : List Column) → Names cs → Fml → Fml
  Lent i [] ns F = F
  Lent i (c ∷ cs) ns F = fsep (lent_as c.shared (named i) (ns.0.0 ∷ []) (row c) (ref c ns.0.1) (vptr b c.place ∷ [])) (Lent (suc i) cs ns.1 F)

  abbrev lender : Bool → Lft → (R : RattleType) → R.Denot → ℕ → GName → Fml
  lender true κ R x o δ = flent κ (part_at R full_share x b o)
  lender false κ R x o δ = flent κ (Body (mem R) b o δ)

  abbrev last : (s : Bool) → Width → ℕ → GName → Ending s → Fml
  last true w n δ z = ftrue
  last false w n δ z = fres δ ((Array (UInt w) n).coded.code z)

  abbrev pub Lasts : (X : Type 0) (cs : List Column) → Names cs → Endings cs X → Fml → Fml
  Lasts X [] ns ws F = F
  Lasts X (c ∷ cs) ns ws F = fsep (last c.shared c.width c.size ns.0.1 ws.0) (Lasts X cs ns.1 ws.1 F)

module _ {M : Type 1} {𝓤 : Ura M} (𝓛 : Logic 𝓤) (b : ℕ) where
  open 𝓛 use {H, A}

  abbrev ◌∗◌ : SProp 𝓤 → SProp 𝓤 → SProp 𝓤
  P ∗ Q = sep 𝓤 P Q

  abbrev ◌⊢◌ : SProp 𝓤 → SProp 𝓤 → Type 1
  P ⊢ Q = ent 𝓤 P Q

  abbrev ⟦◌⟧ : Fml → SProp 𝓤
  ⟦ F ⟧ = sem 𝓛 F

  infix 26 ◌⊢◌
  infixr 35 ◌∗◌
  abbrev pub Cells : List Column → SProp 𝓤
  Cells [] = emp 𝓤
  Cells (c ∷ cs) = H.at full_share (ty_array (ty_int c.width) c.size) b c.place (val c.width c.now) ∗ Cells cs

  abbrev pub Tokens : (cs : List Column) → Names cs → SProp 𝓤 → SProp 𝓤
  Tokens [] ns P = P
  Tokens (c ∷ cs) ns P = A.lft (ns.0.0 ∷ []) full_share ∗ Tokens cs ns.1 P

  unfoldable pub Lenders : (cs : List Column) → Names cs → SProp 𝓤
  Lenders [] ns = emp 𝓤
  Lenders (c ∷ cs) ns = ⟦ lender b c.shared (ns.0.0 ∷ []) (row c) c.now c.place ns.0.1 ⟧ ∗ Lenders cs ns.1

  -- ## one column
  module _ (w : Width) (n : ℕ) (o : ℕ) where
    abbrev R : RattleType
    R = Array (UInt w) n

    column_in : (xs : List ℕ) → H.at full_share (ty_array (ty_int w) n) b o (val w xs) ⊢ ⟦ part_at R full_share xs b o ⟧
    unfolding part_of
    column_in xs =
        qed 𝓛 (‵ (fat full_share (ty_array (ty_int w) n) b o (val w xs)) ∷ []) ∵
        use1 𝓛 (given (T (has_ty (ty_array (ty_int w) n) (val w xs)) × WT (val w xs)) (‵ (fat full_share (ty_array (ty_int w) n) b o (val w xs)))) (𝓛.laws.at_wt full_share (ty_array (ty_int w) n) b o (val w xs)) $ learn ! (λ t.
        use1 𝓛 (‵ (cell_at full_share R.mir (vals w xs) b o)) (𝓛.laws.at_raw full_share (ty_array (ty_int w) n) b o (val w xs)) $
        owned ! R (Is R) (Array-Makes 𝓛 (UInt w) (uint_Makes 𝓛 w) n) xs (vals w xs) (column-is w n xs t) $ move ! (1 ∷ 0 ∷ []) $ fjoin ! $
        fpack ! (List Val) (λ vs. fsep (cell_at full_share R.mir vs b o) (R.own_val xs vs)) (vals w xs) $ done !)

    column-out : (xs : List ℕ) → ⟦ part_at R full_share xs b o ⟧ ⊢ H.at full_share (ty_array (ty_int w) n) b o (val w xs)
    unfolding part_of
    column-out xs =
        qed 𝓛 (‵ (part_at R full_share xs b o) ∷ []) ∵ fpick ! (λ vs. fsplit ! $
        spelt ! R (Is R) (shows 𝓛 R) (vals w) (Array-Tells (UInt w) (uint_vals w) (uint_Tells w) n) full_share xs vs b o $
        move ! (1 ∷ []) $ drop ! $ use1 𝓛 (‵ (fat full_share (ty_array (ty_int w) n) b o (val w xs))) (𝓛.laws.raw_at full_share (ty_array (ty_int w) n) b o (val w xs)) $ done !)

    -- it is lent for κ, and back once κ is over
    lend_one : (s : Bool) (ℓ : Lifetime) (κ : Lft) (xs : List ℕ)
        → ⟦ part_at R full_share xs b o ⟧ ⊢ H.⇛ (ex 𝓤 (λ (δ : GName). ⟦ lent_as s ℓ κ R (ref_at b s o δ xs) (vptr b o ∷ []) ⟧ ∗ ⟦ lender b s κ R xs o δ ⟧))
    lend_one true ℓ κ xs =
        qed 𝓛 (‵ (part_at R full_share xs b o) ∷ []) ∵ updating ! $
        use1 𝓛 (later (‵ (lent_as true ℓ κ R (ref_at b true o 0 xs) (vptr b o ∷ [])) ⊛ ‵ (lender b true κ R xs o 0)))
        (lends_free 𝓛 R ℓ κ full_share xs b o ((Array-Copied 𝓛 (UInt w) (uint_Copied 𝓛 w) tt n).lends full_share xs b o)) $ await ! tt $ split ! $
        at_once ! $ show ! (λ (δ : GName). ⟦ lent_as true ℓ κ R (ref_at b true o δ xs) (vptr b o ∷ []) ⟧ ∗ ⟦ lender b true κ R xs o δ ⟧) 0 $ done !
    lend_one false ℓ κ xs = lends_ref 𝓛 R ℓ κ xs b o

    back_one : (s : Bool) (κ : Lft) (δ : GName) (xs : List ℕ) (z : Ending s)
        → A.dead κ ∗ (⟦ lender b s κ R xs o δ ⟧ ∗ ⟦ last b s w n δ z ⟧) ⊢ H.⇛ ⟦ part_at R full_share (last_of s xs z) b o ⟧
    back_one true κ δ xs z =
        qed 𝓛 (‵ (fdead κ) ∷ ‵ (flent κ (part_at R full_share xs b o)) ∷ ‵ ftrue ∷ []) ∵ updating ! $ lent_back ! tt $ at_once ! $ move ! (1 ∷ []) $ drop ! $ done !
    back_one false κ δ xs z = ref_back 𝓛 R κ δ z b o

  -- ## all of them
  pub lends : (i : ℕ) (cs : List Column) (P : SProp 𝓤) (F : Fml)
      → Cells cs ∗ (P ∗ ⟦ F ⟧) ⊢ H.⇛ (ex 𝓤 (λ (ns : Names cs). (Tokens cs ns P ∗ ⟦ Lent b i cs ns F ⟧) ∗ Lenders cs ns))
  unfolding Lenders
  lends i [] P F =
      qed 𝓛 (raw (emp 𝓤) ∷ raw (P ∗ ⟦ F ⟧) ∷ []) ∵ updating ! $ at_once ! $
      show ! (λ (ns : Unit {0}). (P ∗ ⟦ F ⟧) ∗ emp 𝓤) tt $ move ! (1 ∷ 0 ∷ []) $ done !
  lends i (c ∷ cs) P F =
      qed 𝓛 ((raw (H.at full_share (ty_array (ty_int c.width) c.size) b c.place (val c.width c.now)) ⊛ raw (Cells cs)) ∷ raw (P ∗ ⟦ F ⟧) ∷ []) ∵ updating ! $ split ! $ move ! (1 ∷ 2 ∷ []) $
      use2 𝓛 (later (some (λ (ns : Names cs). (raw (Tokens cs ns P) ⊛ ‵ (Lent b (suc i) cs ns F)) ⊛ raw (Lenders cs ns)))) (lends (suc i) cs P F) $ await ! tt $ pick ! (λ ns. split ! $ split ! $ move ! (3 ∷ []) $
      use1 𝓛 (‵ (part_at (row c) full_share c.now b c.place)) (column_in c.width c.size c.place c.now) $ lft_new ! tt (λ ν. move ! (1 ∷ []) $
      use1 𝓛 (later (some (λ (δ : GName). ‵ (lent_as c.shared (named i) (ν ∷ []) (row c) (ref b c δ) (vptr b c.place ∷ [])) ⊛ ‵ (lender b c.shared (ν ∷ []) (row c) c.now c.place δ))))
      (lend_one c.width c.size c.place c.shared (named i) (ν ∷ []) c.now) $ await ! tt $ pick ! (λ δ. split ! $
      -- [what the reference owns; the lender's part; the token; the others' tokens; what they own; the lender's parts]
      at_once ! $ show ! (λ (ms : Names (c ∷ cs)). (Tokens (c ∷ cs) ms P ∗ ⟦ Lent b i (c ∷ cs) ms F ⟧) ∗ Lenders (c ∷ cs) ms) ((ν, δ), ns) $
      move ! (0 ∷ 4 ∷ []) $ fjoin ! $ move ! (2 ∷ 3 ∷ []) $ join ! $ move ! (0 ∷ 1 ∷ []) $ join ! $ done !)))

  pub backs : (X : Type 0) (cs : List Column) (ns : Names cs) (ws : Endings cs X) (P : SProp 𝓤) (F : Fml)
      → Tokens cs ns P ∗ (Lenders cs ns ∗ ⟦ Lasts b X cs ns ws F ⟧) ⊢ H.⇛ (Cells (endeds X cs ws) ∗ (P ∗ ⟦ F ⟧))
  unfolding Lenders
  backs X [] ns ws P F =
      qed 𝓛 (raw P ∷ raw (emp 𝓤) ∷ ‵ F ∷ []) ∵ updating ! $ at_once ! $ move ! (1 ∷ []) $ done !
  backs X (c ∷ cs) ns ws P F =
      let κ = ns.0.0 ∷ [] in
      let δ = ns.0.1 in
      let xs = last_of c.shared c.now ws.0 in
      qed 𝓛 ((‵ (flft κ full_share) ⊛ raw (Tokens cs ns.1 P)) ∷ (‵ (lender b c.shared κ (row c) c.now c.place δ) ⊛ raw (Lenders cs ns.1)) ∷ ‵ (fsep (last b c.shared c.width c.size δ ws.0) (Lasts b X cs ns.1 ws.1 F)) ∷ []) ∵ updating ! $
      split ! $ lft_end ! tt $ move ! (2 ∷ []) $ split ! $ move ! (4 ∷ []) $ fsplit ! $
      -- [the last value; the others'; the lender's part; the others'; the token, over; the others']
      move ! (4 ∷ 2 ∷ 0 ∷ []) $ use3 𝓛 (later (‵ (part_at (row c) full_share xs b c.place))) (back_one c.width c.size c.place c.shared κ δ c.now ws.0) $ await ! tt $
      use1 𝓛 (raw (H.at full_share (ty_array (ty_int c.width) c.size) b c.place (val c.width xs))) (column-out c.width c.size c.place xs) $
      move ! (3 ∷ 2 ∷ 1 ∷ []) $ use3 𝓛 (later (raw (Cells (endeds X cs ws.1)) ⊛ raw (P ∗ ⟦ F ⟧))) (backs X cs ns.1 ws.1 P F) $ await ! tt $ split ! $
      at_once ! $ move ! (2 ∷ 0 ∷ []) $ join ! $ done !
