-- No two hand-outs share a generation: each is at or above a floor that lies above all before it. The floor never falls, so every hand-out
-- and the ceiling of every restart are at or above the one that a list begins with. Assumes nothing.
use Prim.Native.Nat.{ℕ, ◌+◌, ◌≤◌, ◌<◌}
use native.Mathlib.Omega.{arith}
use mathlib.Core.Path.{◌≡◌, refl}
use mathlib.Core.List.{List, [], ◌∷◌}
use mathlib.Core.Option.{Option, none, some}
use lib.Dec.{eqb}
use borrow.Author.Tests.{eqb-true, ne_eqb}
use Rattle.types.specs.Refusal.{refused, done}
use Rattle.types.proofs.Cases.{split}
use Rattle.delivery.specs.Policy.{Policy}
use Rattle.consumer.specs.Calls.{HandOut}
use Rattle.machine.specs.Calls.{Event}
use Rattle.crash_safety.specs.Effects.{Effect, handing, settling, requeuing, renewing, restarting, nothing, effect_of}
use Rattle.crash_safety.specs.Demand3.{handed, is_under, counted, hand_outs}
use Rattle.crash_safety.specs.From.{AllAtLeast}
use Rattle.crash_safety.proofs.Law.{Ledger, noted, AtLeast, AtLeastHanded, Seen, least-handed, Along, folded, above}

rises : (g : ℕ) (h : Option HandOut) → AtLeastHanded g h → g ≤ above g h
rises g none f = omega arith
rises g (some h) f = omega arith

pub floor-rises : (g : ℕ) (x : Effect) → AtLeast g x → g ≤ above g (handed x)
floor-rises g x f = rises g (handed x) (least-handed g x f)

-- a generation below the floor is not handed out
not_under : (g k : ℕ) (h : Option HandOut) → g < k → AtLeastHanded k h → counted (is_under g) h ≡ 0
not_under g k none b f = refl
not_under g k (some h) b f = rw (ne_eqb g h.generation (λ q. omega arith))

pub none_at-least : (g k : ℕ) → g < k → (es : List Event) → AllAtLeast k es → hand_outs (is_under g) es ≡ 0
unfolding AllAtLeast hand_outs
none_at-least g k b [] h = refl
none_at-least g k b (e ∷ es) h = omega (arith, not_under g k (handed (effect_of e)) b (least-handed k (effect_of e) h.0), none_at-least g k b es h.1)

-- what is at least k is at least g below it
least : (g k : ℕ) (x : Effect) → g ≤ k → AtLeast k x → AtLeast g x
least g k (handing o h) m f = omega arith
least g k (settling named) m f = tt
least g k (requeuing o) m f = tt
least g k renewing m f = tt
least g k (restarting (refused r)) m f = tt
least g k (restarting (done s)) m f = omega arith
least g k nothing m f = tt

-- from whatever says that each hand-out is at or above the floor
module _ (L : Ledger → Event → Type 0) (low : (l : Ledger) (e : Event) → L l e → AtLeastHanded l.floor (handed (effect_of e))) where
  none_under : (g : ℕ) (es : List Event) (l : Ledger) → g < l.floor → Along noted L l es → hand_outs (is_under g) es ≡ 0
  unfolding Along hand_outs
  none_under g [] l b h = refl
  none_under g (e ∷ es) l b h =
      let f : AtLeastHanded l.floor (handed (effect_of e)) = low l e h.0 in
      omega (
        arith,
        not_under g l.floor (handed (effect_of e)) b f,
        none_under g es (noted l e) (omega (arith, rises l.floor (handed (effect_of e)) f)) h.1,
      )

  pub once-each : (es : List Event) (l : Ledger) → Along noted L l es → (g : ℕ) → hand_outs (is_under g) es ≤ 1
  unfolding Along hand_outs
  once-each [] l h g = omega arith
  once-each (e ∷ es) l h g = go (handed (effect_of e)) refl (once-each es (noted l e) h.1 g)
    where
      go : (x : Option HandOut) → handed (effect_of e) ≡ x → hand_outs (is_under g) es ≤ 1 → counted (is_under g) x + hand_outs (is_under g) es ≤ 1
      go none q rest = omega arith
      go (some d) q rest =
          split (eqb g d.generation)
          (λ t. rw t (omega (arith, none_under g es (noted l e) (rw q (omega (arith, eqb-true g d.generation t))) h.1)))
          (λ t. rw t (omega arith))

-- from whatever says that each hand-out, and the ceiling of each restart, is at or above the floor
module _ (L : Ledger → Event → Type 0) (low : (l : Ledger) (e : Event) → L l e → AtLeast l.floor (effect_of e)) where
  pub all-at-least : (g : ℕ) (es : List Event) (l : Ledger) → g ≤ l.floor → Along noted L l es → AllAtLeast g es
  unfolding Along AllAtLeast
  all-at-least g [] l m h = tt
  all-at-least g (e ∷ es) l m h = (
    least g l.floor (effect_of e) m (low l e h.0),
    all-at-least g es (noted l e) (omega (arith, floor-rises l.floor (effect_of e) (low l e h.0))) h.1,
  )

  pub floor-after : (es : List Event) (l : Ledger) → Along noted L l es → l.floor ≤ (folded noted l es).floor
  unfolding Along folded
  floor-after [] l h = omega arith
  floor-after (e ∷ es) l h = omega (arith, floor-rises l.floor (effect_of e) (low l e h.0), floor-after es (noted l e) h.1)

-- under one policy
pub none_below : (p : Policy) (g : ℕ) (es : List Event) (l : Ledger) → g < l.floor → Along noted (Seen p) l es → hand_outs (is_under g) es ≡ 0
none_below p = none_under (Seen p) (λ l e h. h.1)

pub none_shared : (p : Policy) (es : List Event) (l : Ledger) → Along noted (Seen p) l es → (g : ℕ) → hand_outs (is_under g) es ≤ 1
none_shared p = once-each (Seen p) (λ l e h. h.1)
