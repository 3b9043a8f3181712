-- The locals of a function as one entry of a walk's context, so that the context does not grow with them.
--     Frame E ss       the locals of the environment E, each with what stands in it (`ss`): nothing yet, or a value
--     enters           on entry: the locals are made, and the arguments stored in those behind the result's
--     held k           local k, which holds a value: it is read or overwritten
--     sets k           a store to local k, whatever stands there
--     loads ks         the values of several locals, as the operands of a call
--     freed            the end of a function: the result is read, and every local is freed.        leaves      the same of one that returns `()`, which is stored first
-- Assumes `Logic`.
use mathlib.Core.Path.{◌≡◌, refl, sym, ap, subst}
use Prim.Native.Nat.{ℕ, zero, suc}
use mathlib.Core.Bool.{Bool, true, false, ◌&&◌}
use mathlib.Core.Option.{Option, none, some}
use mathlib.Core.List.{List, [], ◌∷◌}
use lib.Dec.{T}
use lib.ListN.{get_or}
use seplogic.Ra.Ura.{Ura}
use base.Fraction.{full_share}
use mir.Syntax.{Ty, place, Opd as Operand, copy, opd_unit, rv_opd, seq, assign, return, Local, Fn}
use mir.Val.{Val, vunit, WT, has_ty}
use mir.Facts.{and_yes}
use base.Logic.{SProp, ent, sep, wand, never, emp, id⊢, via, mono_l, snd∗, emp∗, wand_i, all_i, never_e}
use prog.Wp.{Env, no_local, ty_of, alloc, pass, release, Calls, Loops, WpFn}
use types.Logic.{Logic}
use sound.Laws.{never∗}
use types.Kit.{Item, raw, ⋆, nth, pop, push, at_ret, Goal, prop, runs, allocs, params', aim, Seq, Step, step, ◌⊛◌, ◌$◌, ◌∵◌, Go, !, qed, by, move, use1, use2, split, join, frame, check, assume}
use types.Run.{Writes, Opds, load, from, stop, unit_lit, of_opd, and_then, no_more, assigns, enter, returns}
use types.Part.{Part, look_in}
use Rattle.walks.proofs.Focus.{Ways, put_back, top, under}

-- ## what stands in the locals
abbrev pub Slot : Type 0
Slot = Option Val

abbrev value_of : Slot → Val
value_of none = vunit
value_of (some v) = v

abbrev is_full : Slot → Bool
is_full none = false
is_full (some v) = true

abbrev pub value_in : List Slot → ℕ → Val
value_in [] k = vunit
value_in (s ∷ ss) zero = value_of s
value_in (s ∷ ss) (suc k) = value_in ss k

abbrev pub full : List Slot → ℕ → Bool
full [] k = false
full (s ∷ ss) zero = is_full s
full (s ∷ ss) (suc k) = full ss k

abbrev pub has : List Slot → ℕ → Bool
has [] k = false
has (s ∷ ss) zero = true
has (s ∷ ss) (suc k) = has ss k

abbrev pub with_value : List Slot → ℕ → Val → List Slot
with_value [] k v = []
with_value (s ∷ ss) zero v = some v ∷ ss
with_value (s ∷ ss) (suc k) v = s ∷ with_value ss k v

with-own : (ss : List Slot) (k : ℕ) → T (full ss k) → with_value ss k (value_in ss k) ≡ ss
with-own [] k t = absurd t
with-own (none ∷ ss) zero t = absurd t
with-own (some v ∷ ss) zero t = refl
with-own (s ∷ ss) (suc k) t = ap (λ (us : List Slot). s ∷ us) (with-own ss k t)

pub set_full : (ss : List Slot) (k : ℕ) (v : Val) → T (has ss k) → T (full (with_value ss k v) k)
set_full [] k v t = absurd t
set_full (s ∷ ss) zero v t = tt
set_full (s ∷ ss) (suc k) v t = set_full ss k v t

pub set_value : (ss : List Slot) (k : ℕ) (v : Val) → T (has ss k) → value_in (with_value ss k v) k ≡ v
set_value [] k v t = absurd t
set_value (s ∷ ss) zero v t = refl
set_value (s ∷ ss) (suc k) v t = set_value ss k v t

-- a store to one local leaves what another holds
abbrev pub apart : ℕ → ℕ → Bool
apart zero zero = false
apart zero (suc r) = true
apart (suc k) zero = true
apart (suc k) (suc r) = apart k r

pub value-kept : (ss : List Slot) (k r : ℕ) (v : Val) → T (apart k r) → value_in (with_value ss k v) r ≡ value_in ss r
value-kept [] k r v t = refl
value-kept (s ∷ ss) zero zero v t = absurd t
value-kept (s ∷ ss) zero (suc r) v t = refl
value-kept (s ∷ ss) (suc k) zero v t = refl
value-kept (s ∷ ss) (suc k) (suc r) v t = value-kept ss k r v t

pub full-kept : (ss : List Slot) (k r : ℕ) (v : Val) → T (apart k r) → full (with_value ss k v) r ≡ full ss r
full-kept [] k r v t = refl
full-kept (s ∷ ss) zero zero v t = absurd t
full-kept (s ∷ ss) zero (suc r) v t = refl
full-kept (s ∷ ss) (suc k) zero v t = refl
full-kept (s ∷ ss) (suc k) (suc r) v t = full-kept ss k r v t

-- on entry: no value, and the arguments
abbrev pub empties : List Local → List Slot
empties [] = []
empties (l ∷ ls) = none ∷ empties ls

abbrev pub passed : List Local → List Val → List Slot
passed ls [] = empties ls
passed [] (v ∷ vs) = []
passed (l ∷ ls) (v ∷ vs) = some v ∷ passed ls vs

-- those of a function: its result, its parameters, and the rest
abbrev pub entering : List Local → List Val → List Slot
entering [] vs = []
entering (l ∷ ls) vs = none ∷ passed ls vs

-- the operands and the values of several locals
abbrev pub copies : List ℕ → List Operand
copies [] = []
copies (k ∷ ks) = copy (place k []) ∷ copies ks

abbrev pub values_in : List Slot → List ℕ → List Val
values_in ss [] = []
values_in ss (k ∷ ks) = value_in ss k ∷ values_in ss ks

-- each value alone in a list, as a tuple
abbrev pub Alone : List Val → Type 0
Alone [] = Unit {0}
Alone (v ∷ vs) = List Val × Alone vs

abbrev pub alone : (vs : List Val) → Alone vs
alone [] = tt
alone (v ∷ vs) = (v ∷ [], alone vs)

abbrev pub all-full : List Slot → List ℕ → Bool
all-full ss [] = true
all-full ss (k ∷ ks) = full ss k && all-full ss ks

module _ {M : Type 1} {𝓤 : Ura M} (𝓛 : Logic 𝓤) where
  -- a block for each local, and the environment that they make
  open 𝓛 use {H}

  abbrev pub Blocks : List Local → Type 0
  Blocks [] = Unit {0}
  Blocks (l ∷ ls) = ℕ × Blocks ls

  abbrev pub env_of : (ls : List Local) → Blocks ls → Env 𝓤 H
  env_of [] bs = []
  env_of (l ∷ ls) bs = (ty_of 𝓤 H l, bs.0) ∷ env_of ls bs.1

  -- each argument is of its local's type
  abbrev Typeds : List Local → List Val → Type 0
  Typeds ls [] = Unit {0}
  Typeds [] (v ∷ vs) = ⊥
  Typeds (l ∷ ls) (v ∷ vs) = (T (has_ty (ty_of 𝓤 H l) v) × WT v) × Typeds ls vs

  -- the first local is the result's
  abbrev pub Passable : List Local → List Val → Type 0
  Passable [] vs = ⊥
  Passable (l ∷ ls) vs = Typeds ls vs

  abbrev ◌∗◌ : SProp 𝓤 → SProp 𝓤 → SProp 𝓤
  P ∗ Q = sep 𝓤 P Q

  abbrev ◌⊢◌ : SProp 𝓤 → SProp 𝓤 → Type 1
  P ⊢ Q = ent 𝓤 P Q

  infix 26 ◌⊢◌
  infixr 35 ◌∗◌
  abbrev Holds : Ty → ℕ → Slot → SProp 𝓤
  Holds τ b none = H.room τ b zero
  Holds τ b (some v) = H.at full_share τ b zero v

  unfoldable pub Frame : Env 𝓤 H → List Slot → SProp 𝓤
  Frame [] [] = emp 𝓤
  Frame [] (s ∷ ss) = never 𝓤
  Frame (e ∷ E) [] = never 𝓤
  Frame (e ∷ E) (s ∷ ss) = Holds e.0 e.1 s ∗ (H.dies e.0 e.1 ∗ Frame E ss)

  abbrev pub type_in : Env 𝓤 H → ℕ → Ty
  type_in E k = (get_or E k (no_local 𝓤 H)).0

  abbrev pub block_in : Env 𝓤 H → ℕ → ℕ
  block_in E k = (get_or E k (no_local 𝓤 H)).1

  -- local k with a value
  abbrev Cell : Env 𝓤 H → ℕ → Val → SProp 𝓤
  Cell E k v = H.at full_share (type_in E k) (block_in E k) zero v

  module _ where
    room_of : (τ : Ty) (b : ℕ) (s : Slot) → Holds τ b s ⊢ H.room τ b zero
    room_of τ b none = id⊢ 𝓤 (H.room τ b zero)
    room_of τ b (some v) = 𝓛.laws.at_room τ b zero v

    -- what is taken out of the locals behind one
    behind : (e : Ty × ℕ) (s : Slot) (P F : SProp 𝓤) (Q F' : Val → SProp 𝓤) → F ⊢ P ∗ Ways 𝓛 Q F'
        → Holds e.0 e.1 s ∗ (H.dies e.0 e.1 ∗ F) ⊢ P ∗ Ways 𝓛 Q (λ u. Holds e.0 e.1 s ∗ (H.dies e.0 e.1 ∗ F' u))
    behind e s P F Q F' h = under 𝓛 P (Holds e.0 e.1 s) (H.dies e.0 e.1 ∗ F) Q (λ u. H.dies e.0 e.1 ∗ F' u) (under 𝓛 P (H.dies e.0 e.1) F Q F' h)

    frame_held : (E : Env 𝓤 H) (ss : List Slot) (k : ℕ) → T (full ss k)
        → Frame E ss ⊢ Cell E k (value_in ss k) ∗ Ways 𝓛 (Cell E k) (λ u. Frame E (with_value ss k u))
    unfolding Frame
    frame_held [] [] k t = absurd t
    frame_held [] (s ∷ ss) k t = never_e 𝓤 _
    frame_held (e ∷ E) [] k t = absurd t
    frame_held (e ∷ E) (none ∷ ss) zero t = absurd t
    frame_held (e ∷ E) (some v ∷ ss) zero t = top 𝓛 (H.dies e.0 e.1 ∗ Frame E ss) (Cell (e ∷ E) zero v) (Cell (e ∷ E) zero)
    frame_held (e ∷ E) (s ∷ ss) (suc k) t =
        behind e s (Cell E k (value_in ss k)) (Frame E ss) (Cell E k) (λ u. Frame E (with_value ss k u)) (frame_held E ss k t)

    frame_room : (E : Env 𝓤 H) (ss : List Slot) (k : ℕ) → T (has ss k)
        → Frame E ss ⊢ H.room (type_in E k) (block_in E k) zero ∗ Ways 𝓛 (Cell E k) (λ u. Frame E (with_value ss k u))
    unfolding Frame
    frame_room [] [] k t = absurd t
    frame_room [] (s ∷ ss) k t = never_e 𝓤 _
    frame_room (e ∷ E) [] k t = absurd t
    frame_room (e ∷ E) (s ∷ ss) zero t =
        via 𝓤 (H.room e.0 e.1 zero ∗ (H.dies e.0 e.1 ∗ Frame E ss)) (mono_l 𝓤 (H.dies e.0 e.1 ∗ Frame E ss) (room_of e.0 e.1 s))
        (top 𝓛 (H.dies e.0 e.1 ∗ Frame E ss) (H.room e.0 e.1 zero) (Cell (e ∷ E) zero))
    frame_room (e ∷ E) (s ∷ ss) (suc k) t =
        behind e s (H.room (type_in E k) (block_in E k) zero) (Frame E ss) (Cell E k) (λ u. Frame E (with_value ss k u)) (frame_room E ss k t)

    frame_made : (ls : List Local) (P : SProp 𝓤) (K : Env 𝓤 H → SProp 𝓤) → ((bs : Blocks ls) → Frame (env_of ls bs) (empties ls) ∗ P ⊢ K (env_of ls bs)) → P ⊢ alloc 𝓤 H ls K
    unfolding Frame
    frame_made [] P K h = via 𝓤 (emp 𝓤 ∗ P) (emp∗ 𝓤 P) (h tt)
    frame_made (l ∷ ls) P K h =
        all_i 𝓤 (λ (b : ℕ). wand 𝓤 (Fresh b) (alloc 𝓤 H ls (Next b)))
        (λ b. wand_i 𝓤 P (Fresh b) (alloc 𝓤 H ls (Next b)) (frame_made ls (P ∗ Fresh b) (Next b) (λ bs.
        qed 𝓛 (raw (Frame (env_of ls bs) (empties ls)) ∷ raw P ∷ (raw (H.room (ty_of 𝓤 H l) b zero) ⊛ raw (H.dies (ty_of 𝓤 H l) b)) ∷ []) ∵ move ! (2 ∷ []) $ split ! $
        move ! (1 ∷ 2 ∷ []) $ join ! $ move ! (1 ∷ 0 ∷ []) $ join ! $ by ! (h (b, bs)))))
      where
        Fresh : ℕ → SProp 𝓤
        Fresh b = H.room (ty_of 𝓤 H l) b zero ∗ H.dies (ty_of 𝓤 H l) b

        Next : ℕ → Env 𝓤 H → SProp 𝓤
        Next b E = K ((ty_of 𝓤 H l, b) ∷ E)

    frame_passed : (ls : List Local) (bs : Blocks ls) (vs : List Val) (P K : SProp 𝓤) → Typeds ls vs → Frame (env_of ls bs) (passed ls vs) ∗ P ⊢ K
        → Frame (env_of ls bs) (empties ls) ∗ P ⊢ pass 𝓤 H (env_of ls bs) vs K
    unfolding Frame
    frame_passed ls bs [] P K t h = h
    frame_passed [] bs (v ∷ vs) P K t h = absurd t
    frame_passed (l ∷ ls) bs (v ∷ vs) P K t h =
        qed 𝓛 ((raw (H.room τ b zero) ⊛ raw (H.dies τ b) ⊛ raw (Frame E (empties ls))) ∷ raw P ∷ []) ∵ check ! t.0 $
        split ! $ frame ! $ split ! $ assume {P = pass 𝓤 H E vs K} ! (raw (H.at full_share τ b zero v)) $ move ! (2 ∷ 0 ∷ 1 ∷ []) $
        by ! (frame_passed ls bs.1 vs (H.at full_share τ b zero v ∗ (H.dies τ b ∗ P)) K t.1
        (qed 𝓛 (raw (Frame E (passed ls vs)) ∷ raw (H.at full_share τ b zero v) ∷ raw (H.dies τ b) ∷ raw P ∷ []) ∵ move ! (2 ∷ 0 ∷ []) $ join ! $ move ! (1 ∷ 0 ∷ []) $ join ! $ by ! h))
      where
        τ : Ty
        τ = ty_of 𝓤 H l

        b : ℕ
        b = bs.0

        E : Env 𝓤 H
        E = env_of ls bs.1

    frame_freed : (E : Env 𝓤 H) (ss : List Slot) (P K : SProp 𝓤) → P ⊢ K → Frame E ss ∗ P ⊢ release 𝓤 H E K
    unfolding Frame
    frame_freed [] [] P K h = via 𝓤 P (snd∗ 𝓤 (emp 𝓤) P) h
    frame_freed [] (s ∷ ss) P K h = never∗ 𝓤 P K
    frame_freed (e ∷ E) [] P K h = never∗ 𝓤 P (release 𝓤 H (e ∷ E) K)
    frame_freed (e ∷ E) (s ∷ ss) P K h =
        qed 𝓛 ((raw (Holds e.0 e.1 s) ⊛ raw (H.dies e.0 e.1) ⊛ raw (Frame E ss)) ∷ raw P ∷ []) ∵ split ! $
        use1 𝓛 (raw (H.room e.0 e.1 zero)) (room_of e.0 e.1 s) $ move ! (1 ∷ []) $ split ! $ move ! (2 ∷ 0 ∷ []) $ join ! $ frame ! $ by ! (frame_freed E ss P K h)

-- ## the rules
module _ {M : Type 1} {𝓤 : Ura M} (𝓛 : Logic 𝓤) where
  open 𝓛 use {H}

  made : {Γ : List (Item 𝓤)} (ls : List Local) (vs : List Val) (g : Env 𝓤 H → Goal 𝓤 H) → Passable 𝓛 ls vs
      → ((bs : Blocks 𝓛 ls) → Seq (Go {0}) 𝓛 (raw (Frame 𝓛 (env_of 𝓛 ls bs) (entering ls vs)) ∷ Γ) (g (env_of 𝓛 ls bs)))
      → Seq (Go {0}) 𝓛 Γ (allocs ls (λ E. params' E vs (g E)))
  unfolding Frame
  made [] vs g ts k = absurd ts
  made {Γ} (l ∷ ls) vs g ts k = record {
    prf = frame_made 𝓛 (l ∷ ls) (⋆ 𝓛 Γ) (λ E. aim 𝓤 H (params' E vs (g E))) (λ bs. first bs (k bs).prf);
  }
    where
      Made : Blocks 𝓛 (l ∷ ls) → Item 𝓤
      Made bs = raw (Frame 𝓛 (env_of 𝓛 (l ∷ ls) bs) (none ∷ passed ls vs))

      -- the result's local stands beside the others
      first : (bs : Blocks 𝓛 (l ∷ ls)) → ent 𝓤 (⋆ 𝓛 (Made bs ∷ Γ)) (aim 𝓤 H (g (env_of 𝓛 (l ∷ ls) bs)))
          → ent 𝓤 (sep 𝓤 (Frame 𝓛 (env_of 𝓛 (l ∷ ls) bs) (empties (l ∷ ls))) (⋆ 𝓛 Γ)) (pass 𝓤 H (env_of 𝓛 ls bs.1) vs (aim 𝓤 H (g (env_of 𝓛 (l ∷ ls) bs))))
      first bs h =
          let room = H.room (ty_of 𝓤 H l) bs.0 zero in
          let dies = H.dies (ty_of 𝓤 H l) bs.0 in
          qed 𝓛 ((raw room ⊛ raw dies ⊛ raw (Frame 𝓛 (env_of 𝓛 ls bs.1) (empties ls))) ∷ raw (⋆ 𝓛 Γ) ∷ []) ∵ split ! $ move ! (1 ∷ []) $ split ! $ move ! (1 ∷ 2 ∷ 0 ∷ []) $
          by ! (frame_passed 𝓛 ls bs.1 vs (sep 𝓤 room (sep 𝓤 dies (⋆ 𝓛 Γ))) (aim 𝓤 H (g (env_of 𝓛 (l ∷ ls) bs))) ts
          (qed 𝓛 (raw (Frame 𝓛 (env_of 𝓛 ls bs.1) (passed ls vs)) ∷ raw room ∷ raw dies ∷ raw (⋆ 𝓛 Γ) ∷ []) ∵ move ! (2 ∷ 0 ∷ []) $ join ! $ move ! (1 ∷ 0 ∷ []) $ join ! $
          by ! (via 𝓤 (⋆ 𝓛 (Made bs ∷ Γ)) (push 𝓛 (Made bs) Γ) h)))

  -- what is to be shown of a function's body, from Γ and its locals
  abbrev pub Running : (C : Calls 𝓤 H) (Λ : Loops 𝓤 H) (f : Fn) → List Val → List (Item 𝓤) → (Val → SProp 𝓤) → Blocks 𝓛 f.locals → Type 1
  Running C Λ f vs Γ Kf bs =
      Seq (Go {0}) 𝓛 (raw (Frame 𝓛 (env_of 𝓛 f.locals bs) (entering f.locals vs)) ∷ Γ) (runs C Λ (env_of 𝓛 f.locals bs) f.body (at_ret (env_of 𝓛 f.locals bs) Kf))

  pub enters : (C : Calls 𝓤 H) (Λ : Loops 𝓤 H) (f : Fn) (vs : List Val) (Γ : List (Item 𝓤)) (Kf : Val → SProp 𝓤) → Passable 𝓛 f.locals vs
      → ((bs : Blocks 𝓛 f.locals) → Running C Λ f vs Γ Kf bs) → ent 𝓤 (⋆ 𝓛 Γ) (WpFn 𝓤 H C Λ f vs Kf)
  enters C Λ f vs Γ Kf ts k = qed 𝓛 Γ ∵ enter ! C Λ f vs Kf $ made f.locals vs (λ E. runs C Λ E f.body (at_ret E Kf)) ts k

  module _ (E : Env 𝓤 H) (ss : List Slot) where
    abbrev Own : Item 𝓤
    Own = raw (Frame 𝓛 E ss)

    abbrev After : ℕ → Val → Item 𝓤
    After k v = raw (Frame 𝓛 E (with_value ss k v))

    pub held : (k : ℕ) → T (full ss k) → Part (Go {0}) 𝓛 Own full_share (type_in 𝓛 E k) (block_in 𝓛 E k) zero (value_in ss k) (After k)
    held k ok = record { out = frame_held 𝓛 E ss k ok; same = ap (λ (us : List Slot). raw (Frame 𝓛 E us)) (with-own ss k ok) }

    pub sets : {Γ : List (Item 𝓤)} (k : ℕ) (v : Val) → T (has ss k) → T (has_ty (type_in 𝓛 E k) v) × WT v
        → Writes (Go {0}) 𝓛 (Own ∷ Γ) (type_in 𝓛 E k) (block_in 𝓛 E k) zero v (After k v ∷ Γ)
    sets {Γ} k v ok wt = record {
      go = λ P h.
          qed 𝓛 (raw (⋆ 𝓛 (Own ∷ Γ)) ∷ []) ∵ check ! wt $ use1 𝓛 (Own ⊛ raw (⋆ 𝓛 Γ)) (pop 𝓛 Own Γ) $ split ! $
          use1 𝓛 (raw (H.room (type_in 𝓛 E k) (block_in 𝓛 E k) zero) ⊛ raw (Ways 𝓛 Cells (λ u. Frame 𝓛 E (with_value ss k u)))) (frame_room 𝓛 E ss k ok) $ split ! $ frame ! $
          assume {P = P} ! (raw (Cells v)) $ use2 𝓛 (After k v) (put_back 𝓛 Cells (λ u. Frame 𝓛 E (with_value ss k u)) v) $
          by ! (via 𝓤 (⋆ 𝓛 (After k v ∷ Γ)) (push 𝓛 (After k v) Γ) h);
    }
      where
        Cells : Val → SProp 𝓤
        Cells u = H.at full_share (type_in 𝓛 E k) (block_in 𝓛 E k) zero u

    all_loaded : {Γ : List (Item 𝓤)} (n : ℕ) → Own ≡ nth 𝓛 n Γ → (ks : List ℕ) → T (all-full ss ks) → Opds (Go {0}) 𝓛 Γ E (copies ks) (values_in ss ks)
    all_loaded n e [] ok = no_more !
    all_loaded n e (k ∷ ks) ok =
        let both = and_yes (full ss k) (all-full ss ks) ok in
        and_then ! (load ! (from ! (stop !)) (look_in ! n (subst (λ (i : Item 𝓤). Part (Go {0}) 𝓛 i full_share (type_in 𝓛 E k) (block_in 𝓛 E k) zero (value_in ss k) (After k)) e (held k both.0))))
        (all_loaded n e ks both.1)

    pub loads : {Γ : List (Item 𝓤)} (n : ℕ) → Own ≡ nth 𝓛 n Γ → (ks : List ℕ) → T (all-full ss ks) → {vs : List Val} → values_in ss ks ≡ vs → Opds (Go {0}) 𝓛 Γ E (copies ks) vs
    loads {Γ} n e ks ok is = subst (λ (vs : List Val). Opds (Go {0}) 𝓛 Γ E (copies ks) vs) is (all_loaded n e ks ok)

    pub freed : {Γ : List (Item 𝓤)} {C : Calls 𝓤 H} {Λ : Loops 𝓤 H} {Kf : Val → SProp 𝓤} → T (full ss zero) → Step (Go {0}) 𝓛 Γ (prop (Kf (value_in ss zero))) (Own ∷ Γ) (runs C Λ E return (at_ret E Kf))
    freed {Γ} {C} {Λ} {Kf} ok =
        step (λ s. returns ! (look_in ! 0 (held zero ok)) $
        by ! (via 𝓤 (sep 𝓤 (Frame 𝓛 E ss) (⋆ 𝓛 Γ)) (pop 𝓛 Own Γ) (frame_freed 𝓛 E ss (⋆ 𝓛 Γ) (Kf (value_in ss zero)) s.prf)))

  pub leaves : {Γ : List (Item 𝓤)} {C : Calls 𝓤 H} {Λ : Loops 𝓤 H} {Kf : Val → SProp 𝓤} (E : Env 𝓤 H) (ss : List Slot) → T (has ss zero) → T (has_ty (type_in 𝓛 E zero) vunit)
      → Step (Go {0}) 𝓛 Γ (prop (Kf vunit)) (raw (Frame 𝓛 E ss) ∷ Γ) (runs C Λ E (seq (assign (place zero []) (rv_opd opd_unit)) return) (at_ret E Kf))
  leaves {Γ} {C} {Λ} {Kf} E ss ok typed =
      step (λ s. assigns ! (of_opd ! (unit_lit !)) (from ! (stop !)) (sets E ss zero vunit ok (typed, tt)) $ freed E (with_value ss zero vunit) (set_full ss zero vunit ok) $
      subst (λ (v : Val). Seq (Go {0}) 𝓛 Γ (prop (Kf v))) (sym (set_value ss zero vunit ok)) s)
