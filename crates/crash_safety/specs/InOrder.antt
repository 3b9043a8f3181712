-- Every list on the disk has the effects and the restarts of a list of Runs.antt in which the power never fails. So whatever is proved of the
-- effects of all those lists holds on the disk.
-- SPEC.md, "Disk".
use Rattle.std.specs.Prelude.{ℕ, ◌≡◌, Bool, true, false, List, [], ◌∷◌}
use Rattle.std.proofs.Math.Option.{some}
use Rattle.types.specs.Refusal.{done}
use Rattle.consumer.specs.State.{Configuration, State}
use Rattle.consumer.specs.Valid.{Fits}
use Rattle.starts.specs.Restart.{start}
use Rattle.machine.specs.Calls.{Call, Event}
use Rattle.machine.specs.Transitions.{Phase, idle, After}
use Rattle.crash_safety.specs.Effects.{Effect, handing, settling, requeuing, renewing, restarting, nothing, effect_of}
use Rattle.crash_safety.specs.Runs.{Item, call, step_on, cut, World, next, run, ends, fresh_world}
use Rattle.crash_safety.specs.Demand3.{restarts_in}
use Rattle.crash_safety.specs.Disk.{Disk}
use Rattle.crash_safety.specs.Unordered.{DiskItem, does, leads, is_on_state, next_on, run_on, ends_on, fresh_disk, restarts_on}

-- the effects of events, but for those that do nothing
abbrev pub told : Effect → List Effect → List Effect
told (handing o h) xs = handing o h ∷ xs
told (settling named) xs = settling named ∷ xs
told (requeuing o) xs = requeuing o ∷ xs
told renewing xs = renewing ∷ xs
told (restarting a) xs = restarting a ∷ xs
told nothing xs = xs

unfoldable pub effects_of : List Event → List Effect
effects_of [] = []
effects_of (e ∷ es) = told (effect_of e) (effects_of es)

-- the power never fails
unfoldable pub uncut : List Item → Bool
uncut [] = true
uncut (call q ∷ is) = uncut is
uncut (step_on b ∷ is) = uncut is
uncut (cut k ∷ is) = false

-- from this phase an item can be made, is seen as this event, and leaves that phase
pub record Answered (c : Configuration) (w : World) (i : Item) (from : Phase) (e : Event) (p : Phase) : Type 0 where
  pub same : w.phase ≡ from
  pub after : After
  pub made : next c w i ≡ some after
  pub event : after.event ≡ e
  pub phase : after.phase ≡ p

pub record DoesAs (c : Configuration) (size : ℕ) (s : State) (items : List DiskItem) : Type 0 where
  pub list : List Item
  pub uncut : uncut list ≡ true
  pub same : effects_of (run_on c (fresh_disk s size) items) ≡ effects_of (run c (fresh_world s size) list)
  pub restarts : restarts_in list ≡ restarts_on items
  -- a state that can be called, with nothing pending, is the same
  pub state : (x : State) → (ends_on c (fresh_disk s size) items).phase ≡ idle x → (ends_on c (fresh_disk s size) items).disk.pending ≡ []
      → (ends c (fresh_world s size) list).phase ≡ idle x
  -- and a call on the state that can be made on the disk then is answered as there
  pub answers : (q : Call) → is_on_state q ≡ true → (e : Event) (p : Phase) (d : Disk)
      → next_on c (ends_on c (fresh_disk s size) items).phase (ends_on c (fresh_disk s size) items).disk (does q) ≡ leads (e ∷ []) p d
      → Answered c (ends c (fresh_world s size) list) (call q) (ends_on c (fresh_disk s size) items).phase e p

-- lists on the disk have the effects of demand 3's lists. Each of one without power failures
unfoldable pub InOrder : Type 0
InOrder =
    (c : Configuration) (size : ℕ) (s : State) (items : List DiskItem) → Fits c.settings → start c size ≡ done s → DoesAs c size s items
