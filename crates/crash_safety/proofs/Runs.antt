-- How a law of one item becomes a law of every list: an invariant of who can be called and of the journal, beside what the
-- events before tell, that each item keeps. Assumes nothing.
use mathlib.Core.Path.{◌≡◌, refl, ap}
use mathlib.Core.List.{List, [], ◌∷◌, ◌++◌}
use mathlib.Core.Option.{Option, none, some}
use Rattle.consumer.specs.State.{Configuration}
use Rattle.machine.specs.Calls.{Event}
use Rattle.machine.specs.Transitions.{After}
use Rattle.crash_safety.specs.Runs.{Item, World, next, after, run, ends}
use Rattle.crash_safety.proofs.Law.{Along, folded}

-- what an item that was made says and leaves; one that can't be made says nothing
module _ {G : Type 0} (fold : G → Event → G) (P : G → Event → Type 0) (I : G → World → Type 0) where
  pub record Made (g : G) (t : After) : Type 0 where
    pub says : P g t.event
    pub keeps : I (fold g t.event) (after t)

  abbrev pub Answered : G → Option After → Type 0
  Answered g none = Unit {0}
  Answered g (some t) = Made g t

  module _ (c : Configuration) (each : (g : G) (w : World) (i : Item) → I g w → Answered g (next c w i)) where
    pub along : (items : List Item) (g : G) (w : World) → I g w → Along fold P g (run c w items)
    unfolding Along run
    along [] g w inv = tt
    along (i ∷ is) g w inv = go (next c w i) refl (each g w i inv) (along is g w inv) (λ h t. along is h (after t))
      where
        go : (x : Option After) → next c w i ≡ x → Answered g (next c w i) → Along fold P g (run c w is)
            → ((h : G) (t : After) → I h (after t) → Along fold P h (run c (after t) is))
            → Along fold P g (run c w (i ∷ is))
        go none e m skip rest = rw (e, run) skip
        go (some t) e m skip rest =
            let made : Made g t = rw e at m in
            rw (e, run) (made.says, rest (fold g t.event) t made.keeps)

    -- the invariant holds of what a list leaves
    pub at-end : (items : List Item) (g : G) (w : World) → I g w → I (folded fold g (run c w items)) (ends c w items)
    unfolding run ends folded
    at-end [] g w inv = inv
    at-end (i ∷ is) g w inv = go (next c w i) refl (each g w i inv) (at-end is g w inv) (λ h t. at-end is h (after t))
      where
        go : (x : Option After) → next c w i ≡ x → Answered g (next c w i) → I (folded fold g (run c w is)) (ends c w is)
            → ((h : G) (t : After) → I h (after t) → I (folded fold h (run c (after t) is)) (ends c (after t) is))
            → I (folded fold g (run c w (i ∷ is))) (ends c w (i ∷ is))
        go none e m skip rest = rw (e, run, ends) skip
        go (some t) e m skip rest =
            let made : Made g t = rw e at m in
            rw (e, run, ends) (rest (fold g t.event) t made.keeps)

-- ## items one after another
module _ (c : Configuration) (w : World) (i : Item) (is : List Item) (t : After) (e : next c w i ≡ some t) where
  pub run-made : run c w (i ∷ is) ≡ t.event ∷ run c (after t) is
  unfolding run
  run-made = rw (e, run)

  pub ends-made : ends c w (i ∷ is) ≡ ends c (after t) is
  unfolding ends
  ends-made = rw (e, ends)

-- an item that can't be made
module _ (c : Configuration) (w : World) (i : Item) (is : List Item) (e : next c w i ≡ none) where
  pub run-skipped : run c w (i ∷ is) ≡ run c w is
  unfolding run
  run-skipped = rw (e, run)

  pub ends-skipped : ends c w (i ∷ is) ≡ ends c w is
  unfolding ends
  ends-skipped = rw (e, ends)

pub run_none : (c : Configuration) (w : World) → run c w [] ≡ []
unfolding run
run_none c w = refl

pub ends_none : (c : Configuration) (w : World) → ends c w [] ≡ w
unfolding ends
ends_none c w = refl

-- one list behind another
pub ends-behind : (c : Configuration) (items is : List Item) (w : World) → ends c w (items ++ is) ≡ ends c (ends c w items) is
unfolding ends
ends-behind c [] is w = refl
ends-behind c (i ∷ items) is w = go (next c w i) refl (ends-behind c items is w) (λ t. ends-behind c items is (after t))
  where
    go : (x : Option After) → next c w i ≡ x → ends c w (items ++ is) ≡ ends c (ends c w items) is
        → ((t : After) → ends c (after t) (items ++ is) ≡ ends c (ends c (after t) items) is)
        → ends c w (i ∷ (items ++ is)) ≡ ends c (ends c w (i ∷ items)) is
    go none e skip rest = rw (e, ends) skip
    go (some t) e skip rest = rw (e, ends) (rest t)

pub run-behind : (c : Configuration) (items is : List Item) (w : World) → run c w (items ++ is) ≡ run c w items ++ run c (ends c w items) is
unfolding run ends
run-behind c [] is w = refl
run-behind c (i ∷ items) is w = go (next c w i) refl (run-behind c items is w) (λ t. run-behind c items is (after t))
  where
    go : (x : Option After) → next c w i ≡ x → run c w (items ++ is) ≡ run c w items ++ run c (ends c w items) is
        → ((t : After) → run c (after t) (items ++ is) ≡ run c (after t) items ++ run c (ends c (after t) items) is)
        → run c w (i ∷ (items ++ is)) ≡ run c w (i ∷ items) ++ run c (ends c w (i ∷ items)) is
    go none e skip rest = rw (e, run, ends) skip
    go (some t) e skip rest = rw (e, run, ends) (ap (λ (es : List Event). t.event ∷ es) (rest t))

-- ## one invariant beside another
module _ {G H : Type 0} where
  abbrev pub fold_both : (G → Event → G) → (H → Event → H) → G × H → Event → G × H
  fold_both f k b e = (f b.0 e, k b.1 e)

  abbrev pub SaysBoth : (G → Event → Type 0) → (H → Event → Type 0) → G × H → Event → Type 0
  SaysBoth P Q b e = P b.0 e × Q b.1 e

  abbrev pub KeepsBoth : (G → World → Type 0) → (G → H → World → Type 0) → G × H → World → Type 0
  KeepsBoth I J b w = I b.0 w × J b.0 b.1 w

  -- what the second says and keeps, beside the first
  abbrev pub Second : (G → Event → G) → (H → Event → H) → (H → Event → Type 0) → (G → H → World → Type 0) → G × H
      → Option After → Type 0
  Second f k Q J = Answered (fold_both f k) (λ b e. Q b.1 e) (λ b w. J b.0 b.1 w)

  pub beside : (f : G → Event → G) (k : H → Event → H) (P : G → Event → Type 0) (Q : H → Event → Type 0)
      (I : G → World → Type 0) (J : G → H → World → Type 0) (b : G × H) (x : Option After)
      → Answered f P I b.0 x → Second f k Q J b x → Answered (fold_both f k) (SaysBoth P Q) (KeepsBoth I J) b x
  beside f k P Q I J b none p q = tt
  beside f k P Q I J b (some t) p q = record { says = (p.says, q.says); keeps = (p.keeps, q.keeps) }
