-- A call by value in a proof by hand: what its caller has to know of it, and the step. Assumes `Logic`.
--     Answers      called with these machine values it asks for nothing more, and gives an answer of which F holds
--     answered     so does a call of a covered function whose `ensures` says F
--     asks         the call is made, and the answer is had with its machine value and with F
use mathlib.Core.List.{List, [], ◌∷◌}
use seplogic.Ra.Ura.{Ura}
use mir.Syntax.{Callee, Place, Opd as Operand, Body, seq, call}
use mir.Val.{Val}
use base.Logic.{SProp, ent, emp, guard, ex_i}
use base.Fml.{ftrue}
use prog.Wp.{Env, Calls, Loops}
use types.Logic.{Logic}
use contract.Monad.{fact}
use sound.WpLaws.{FmC}
use types.Kit.{Item, Post, Seq, ‵, raw, ◌⊛◌, some, given, later, mean, runs, lands, ◌$◌, ◌∵◌, !, qed, move, drop, use1, split, pick, learn, check, suffices, await, updating, now as at_once, done}
use types.Run.{Opds}
use denote.RattleType.{RattleType}
use denote.Laws.{Is, shows}
use denote.Steps.{facts, heard, nothing}
use denote.Triple.Call.{calls_from}

module _ {M : Type 1} {𝓤 : Ura M} (𝓛 : Logic 𝓤) where
  -- an answer with the machine value w
  open 𝓛 use {H}

  abbrev pub Answer : (X : RattleType) → (X.Denot → Type 0) → Val → Item 𝓤
  Answer X F w = later (some (λ (r : X.Denot). given (Is X r (w ∷ []) × F r) (‵ ftrue)))

  pub record Answers (C : Calls 𝓤 H) (f : Callee) (vs : List Val) (X : RattleType) (F : X.Denot → Type 0) : Type 2 where
    pub Q : Val → SProp 𝓤
    pub called : ent 𝓤 (emp 𝓤) (C f vs Q)
    pub gives : (w : Val) → ent 𝓤 (Q w) (mean 𝓛 (Answer X F w))

  -- what a covered function gives that borrows nothing: its result, and what it ensures
  abbrev pub Result : (X : RattleType) → (X.Denot → SProp 𝓤) → Val → Item 𝓤
  Result X P w = later (some (λ (r : X.Denot). (‵ ftrue ⊛ ‵ (X.own_val r (w ∷ []))) ⊛ raw (P r)))

  pub answers_as : (X : RattleType) (P : X.Denot → SProp 𝓤) (F : X.Denot → Type 0) → ((r : X.Denot) → ent 𝓤 (P r) (fact 𝓤 (F r))) → (w : Val)
      → ent 𝓤 (mean 𝓛 (Result X P w)) (mean 𝓛 (Answer X F w))
  answers_as X P F said w =
      qed 𝓛 (Result X P w ∷ []) ∵ updating ! $ await ! tt $ pick ! (λ r. split ! $ move ! (1 ∷ []) $ use1 𝓛 (raw (fact 𝓤 (F r))) (said r) $ heard ! (F r) (λ p. split ! $ drop ! $
      facts ! X (Is X) (shows 𝓛 X) r (w ∷ []) (λ is. at_once ! $
      suffices ! _ (ex_i 𝓤 (λ (y : X.Denot). guard 𝓤 (Is X y (w ∷ []) × F y) (emp 𝓤)) r) $ check ! (is, p) $ nothing ! $ done !)))

module _ {M : Type 1} {𝓤 : Ura M} {𝓛 : Logic 𝓤} {K : Type 0} {Γ : List (Item 𝓤)} {E : Env 𝓤 𝓛.H} {C : Calls 𝓤 𝓛.H} {f : Callee} {xs : List Operand} {Λ : Loops 𝓤 𝓛.H} {q : Post 𝓤 𝓛.H} {d : Place} where
  open 𝓛 use {H}

  pub asks : K → FmC 𝓤 H 𝓛.laws C → {rest : Body} {vs : List Val} {X : RattleType} {F : X.Denot → Type 0} → Answers 𝓛 C f vs X F → Opds K 𝓛 (‵ ftrue ∷ Γ) E xs vs
      → ((w : Val) (r : X.Denot) → Is X r (w ∷ []) → F r → Seq K 𝓛 Γ (lands C Λ E d w rest q)) → Seq K 𝓛 Γ (runs C Λ E (seq (call f xs d) rest) q)
  asks t fm {rest} {vs} {X} {F} a os k =
      nothing t $ calls_from t fm (‵ ftrue) vs a.Q a.called os (λ w.
      use1 𝓛 (Answer 𝓛 X F w) (a.gives w) $ await t tt $ pick t (λ r. learn t (λ p. drop t $ k w r p.0 p.1)))
