-- Lists in which each restart is handed a configuration of its own, so that hours, rights, limit, threshold and times may change at a restart.
-- In the bounds M and N are then the largest limit and the largest threshold.
-- SPEC.md, "Bounds".
use Rattle.std.specs.Prelude.{ℕ, ◌+◌, ◌≤◌, max, ◌≡◌, List, [], ◌∷◌, ◌++◌}
use Rattle.std.proofs.Math.Option.{Option, none, some}
use Rattle.types.specs.Refusal.{done}
use Rattle.types.specs.Table.{Passed}
use Rattle.raw.specs.Bytes.{IsBytes}
use Rattle.consumer.specs.State.{Configuration, State}
use Rattle.consumer.specs.Valid.{Fits}
use Rattle.starts.specs.Restart.{settings_table, restart}
use Rattle.machine.specs.Calls.{Event}
use Rattle.machine.specs.Transitions.{idle}
use Rattle.crash_safety.specs.Demand3.{is_under, hand_outs, RestartsRight, limit_of, threshold_of, Limited}
use Rattle.crash_safety.specs.Book.{Page}
use Rattle.crash_safety.specs.Settled.{state_in}
use Rattle.crash_safety.specs.Disk.{disk}
use Rattle.crash_safety.specs.Unordered.{DiskItem, OnDisk, on_disk, next_on, restart_on}
use Rattle.crash_safety.specs.From.{page_of, book_from, CountsWithin, Keeps}

-- an item on the disk, and the configuration that it is handed if it is a restart; no other item looks at it
abbrev pub Handed : Type 0
Handed = Configuration × DiskItem

-- what is seen of a list, who can be called after it with the disk then, and its restarts
unfoldable pub run_each : OnDisk → List Handed → List Event
run_each w [] = []
run_each w (h ∷ hs) = elim (next_on h.0 w.phase w.disk h.1) [ none ↦ run_each w hs | some t ↦ t.seen ++ run_each t.world hs ]

unfoldable pub ends_each : OnDisk → List Handed → OnDisk
ends_each w [] = w
ends_each w (h ∷ hs) = elim (next_on h.0 w.phase w.disk h.1) [ none ↦ ends_each w hs | some t ↦ ends_each t.world hs ]

unfoldable pub restarts_each : List Handed → ℕ
restarts_each [] = 0
restarts_each (h ∷ hs) = restart_on h.1 + restarts_each hs

-- ## the configurations
-- each of the list is such
unfoldable pub Each : (Configuration → Type 0) → List Handed → Type 0
Each P [] = Unit {0}
Each P (h ∷ hs) = P h.0 × Each P hs

-- numbers of their types, and none of 1 to 3, 33 and 34
pub record Accepted (c : Configuration) : Type 0 where
  pub fits : Fits c.settings
  pub passes : Passed (settings_table c.settings)

-- the largest number of this kind, that of the configuration that the list begins with among them
unfoldable pub largest : (Configuration → ℕ) → Configuration → List Handed → ℕ
largest f c [] = f c
largest f c (h ∷ hs) = max (f h.0) (largest f c hs)

-- ## the demand
pub record HoldsEach (c : Configuration) (p : Page) (g : ℕ) (hs : List Handed) (es : List Event) (left : Option State) : Type 0 where
  -- where every configuration has a limit
  pub counts : Limited c → Each Limited hs → CountsWithin (largest limit_of c hs) (largest threshold_of c hs) (restarts_each hs) p es
  pub generations : (g : ℕ) → hand_outs (is_under g) es ≤ 1
  pub found : RestartsRight (book_from p) es
  pub keeps : Keeps p g es left

-- `unordered-from` with a configuration of its own for each restart. Every list, from every area of bytes that a
-- restart accepts
unfoldable pub Reconfigured : Type 0
Reconfigured =
    (c : Configuration) (a : List ℕ) (s : State) (hs : List Handed) → Fits c.settings → IsBytes a → restart c a ≡ done s → Each Accepted hs
    → HoldsEach c (page_of s) s.ceiling hs (run_each (on_disk (idle s) (disk a [])) hs) (state_in (ends_each (on_disk (idle s) (disk a [])) hs).phase)
