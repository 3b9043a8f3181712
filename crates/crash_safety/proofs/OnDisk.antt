-- How a law of one item on the disk becomes a law of every list: an item is seen as several events or as none. Assumes nothing.
use mathlib.Core.Path.{◌≡◌, refl}
use mathlib.Core.List.{List, [], ◌∷◌, ◌++◌}
use mathlib.Core.Option.{Option, none, some}
use Rattle.consumer.specs.State.{Configuration}
use Rattle.machine.specs.Calls.{Event}
use Rattle.crash_safety.specs.Unordered.{DiskItem, OnDisk, Then, next_on, run_on, ends_on}
use Rattle.crash_safety.proofs.Law.{Along, folded}

module _ {G : Type 0} (fold : G → Event → G) where
  pub folded-append : (es fs : List Event) (g : G) → folded fold g (es ++ fs) ≡ folded fold (folded fold g es) fs
  unfolding folded
  folded-append [] fs g = refl
  folded-append (e ∷ es) fs g = folded-append es fs (fold g e)

  module _ (P : G → Event → Type 0) where
    pub along-append : (es fs : List Event) (g : G) → Along fold P g es → Along fold P (folded fold g es) fs → Along fold P g (es ++ fs)
    unfolding Along folded
    along-append [] fs g h k = k
    along-append (e ∷ es) fs g h k = (h.0, along-append es fs (fold g e) h.1 k)

    -- and what is behind obeys it too
    pub along-behind : (es fs : List Event) (g : G) → Along fold P g (es ++ fs) → Along fold P (folded fold g es) fs
    unfolding Along folded
    along-behind [] fs g h = h
    along-behind (e ∷ es) fs g h = along-behind es fs (fold g e) h.1

    module _ (I : G → OnDisk → Type 0) where
      pub record MadeOn (g : G) (t : Then) : Type 0 where
        pub says : Along fold P g t.seen
        pub keeps : I (folded fold g t.seen) t.world

      abbrev pub AnsweredOn : G → Option Then → Type 0
      AnsweredOn g none = Unit {0}
      AnsweredOn g (some t) = MadeOn g t

      module _ (c : Configuration) (each : (g : G) (w : OnDisk) (i : DiskItem) → I g w → AnsweredOn g (next_on c w.phase w.disk i)) where
        pub along-on : (items : List DiskItem) (g : G) (w : OnDisk) → I g w → Along fold P g (run_on c w items)
        unfolding Along run_on
        along-on [] g w inv = tt
        along-on (i ∷ is) g w inv =
            go (next_on c w.phase w.disk i) refl (each g w i inv) (along-on is g w inv) (λ h t. along-on is h t.world)
          where
            go : (x : Option Then) → next_on c w.phase w.disk i ≡ x → AnsweredOn g (next_on c w.phase w.disk i)
                → Along fold P g (run_on c w is) → ((h : G) (t : Then) → I h t.world → Along fold P h (run_on c t.world is))
                → Along fold P g (run_on c w (i ∷ is))
            go none e m skip rest = rw (e, run_on) skip
            go (some t) e m skip rest =
                let made : MadeOn g t = rw e at m in
                rw (e, run_on) (along-append t.seen (run_on c t.world is) g made.says (rest (folded fold g t.seen) t made.keeps))

        pub at-end-on : (items : List DiskItem) (g : G) (w : OnDisk) → I g w → I (folded fold g (run_on c w items)) (ends_on c w items)
        unfolding run_on ends_on folded
        at-end-on [] g w inv = inv
        at-end-on (i ∷ is) g w inv =
            go (next_on c w.phase w.disk i) refl (each g w i inv) (at-end-on is g w inv) (λ h t. at-end-on is h t.world)
          where
            go : (x : Option Then) → next_on c w.phase w.disk i ≡ x → AnsweredOn g (next_on c w.phase w.disk i)
                → I (folded fold g (run_on c w is)) (ends_on c w is)
                → ((h : G) (t : Then) → I h t.world → I (folded fold h (run_on c t.world is)) (ends_on c t.world is))
                → I (folded fold g (run_on c w (i ∷ is))) (ends_on c w (i ∷ is))
            go none e m skip rest = rw (e, run_on, ends_on) skip
            go (some t) e m skip rest =
                let made : MadeOn g t = rw e at m in
                rw (e, run_on, ends_on, folded-append t.seen (run_on c t.world is) g) (rest (folded fold g t.seen) t made.keeps)
