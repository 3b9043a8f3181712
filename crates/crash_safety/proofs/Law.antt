-- The law of the events (specs/Law.antt): the book that a ledger keeps, and what restarts find. The bound and the generations follow from
-- the law without a look at the consumer, and so would any other bound on hand-outs; and they do from less, which says nothing of the
-- ceilings that restarts answer. Assumes nothing.
use Prim.Native.Nat.{ℕ, ◌≤◌}
use mathlib.Core.Path.{◌≡◌, refl}
use mathlib.Core.List.{List, [], ◌∷◌}
use mathlib.Core.Option.{Option, none, some}
use Rattle.delivery.specs.Policy.{Policy}
use Rattle.consumer.specs.Calls.{HandOut}
use Rattle.machine.specs.Calls.{Event}
use Rattle.crash_safety.specs.Book.{book_after}
use Rattle.crash_safety.specs.Effects.{Effect, handing, settling, requeuing, renewing, restarting, nothing, effect_of}
use Rattle.crash_safety.specs.Demand3.{handed, Right, RestartsRight}
pub use Rattle.crash_safety.specs.Law.{since, above, Ledger, ledger, noted, empty_ledger, Lawful, HandsOut, AtLeast, Law}
unfoldable pub use Rattle.crash_safety.specs.Law.{Along, folded}

pub folded-book : (es : List Event) (l : Ledger) → (folded noted l es).book ≡ book_after l.book es
unfolding folded book_after
folded-book [] l = refl
folded-book (e ∷ es) l = folded-book es (noted l e)

-- ## the law without the ceilings of restarts
-- what is handed out has a generation of at least g
abbrev pub AtLeastHanded : ℕ → Option HandOut → Type 0
AtLeastHanded g none = Unit {0}
AtLeastHanded g (some h) = g ≤ h.generation

-- what a restart finds, the generation and the rest of a hand-out
abbrev pub Seen : Policy → Ledger → Event → Type 0
Seen p l e = Right l.book.copy (effect_of e) × AtLeastHanded l.floor (handed (effect_of e)) × HandsOut p l (effect_of e)

pub least-handed : (g : ℕ) (x : Effect) → AtLeast g x → AtLeastHanded g (handed x)
least-handed g (handing o h) f = f
least-handed g (settling named) f = tt
least-handed g (requeuing o) f = tt
least-handed g renewing f = tt
least-handed g (restarting a) f = tt
least-handed g nothing f = tt

pub law-seen : (p : Policy) (l : Ledger) (e : Event) → Law p l e → Seen p l e
law-seen p l e h = (h.0, least-handed l.floor (effect_of e) h.1, h.2)

-- along a list
pub all-seen : (p : Policy) (es : List Event) (l : Ledger) → Along noted (Law p) l es → Along noted (Seen p) l es
unfolding Along
all-seen p [] l h = tt
all-seen p (e ∷ es) l h = (law-seen p l e h.0, all-seen p es (noted l e) h.1)

-- what restarts find, from whatever says that each is right
module _ (L : Ledger → Event → Type 0) (right : (l : Ledger) (e : Event) → L l e → Right l.book.copy (effect_of e)) where
  pub found_right : (es : List Event) (l : Ledger) → Along noted L l es → RestartsRight l.book es
  unfolding Along RestartsRight
  found_right [] l h = tt
  found_right (e ∷ es) l h = (right l e h.0, found_right es (noted l e) h.1)

pub restarts-right : (p : Policy) (es : List Event) (l : Ledger) → Along noted (Seen p) l es → RestartsRight l.book es
restarts-right p = found_right (Seen p) (λ l e h. h.0)
