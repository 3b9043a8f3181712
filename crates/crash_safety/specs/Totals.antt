-- All deliveries over the whole batch: at most M × D + C × 4,096, D the different offsets handed out. A restart forgets what was handed out
-- since the last header, and between two headers at most 4,096 generations are taken. Of every list of demand 3, on either disk.
-- SPEC.md, "Bounds".
use Rattle.std.specs.Prelude.{ℕ, ◌+◌, ◌*◌, ◌≤◌, ◌≡◌, Bool, List, [], ◌∷◌}
use Rattle.types.specs.Refusal.{done}
use Rattle.consumer.specs.State.{Configuration, State}
use Rattle.consumer.specs.Calls.{HandOut}
use Rattle.consumer.specs.Valid.{Fits}
use Rattle.starts.specs.Restart.{start}
use Rattle.machine.specs.Calls.{Event}
use Rattle.crash_safety.specs.Runs.{Item, run, fresh_world}
use Rattle.crash_safety.specs.Effects.{Effect, handing, settling, requeuing, renewing, restarting, nothing, effect_of}
use Rattle.crash_safety.specs.Demand3.{for_delivery, hand_outs, restarts_in, limit_of, Limited}
use Rattle.crash_safety.specs.Batch.{different_offsets}
use Rattle.crash_safety.specs.Unordered.{DiskItem, run_on, fresh_disk, restarts_on}

-- a Deliver answer, of whichever offset and count
abbrev pub is_delivery : HandOut → Bool
is_delivery h = for_delivery h.destination

-- how many generations were taken since the last header was wholly written: one by each hand-out and by each nack that isn't refused
abbrev pub taken_after : ℕ → Effect → ℕ
taken_after n (handing o h) = n + 1
taken_after n (settling named) = n
taken_after n (requeuing o) = n + 1
taken_after n renewing = 0
taken_after n (restarting a) = n
taken_after n nothing = n

unfoldable pub taken_in : ℕ → List Event → ℕ
taken_in n [] = n
taken_in n (e ∷ es) = taken_in (taken_after n (effect_of e)) es

-- of events with so many restarts among them
pub record WithinTotals (c : Configuration) (restarts : ℕ) (es : List Event) : Type 0 where
  -- where a limit is set
  pub total : Limited c → hand_outs is_delivery es ≤ limit_of c * different_offsets es + restarts * 4096
  -- since the last header; as the beginnings of a list are lists too, so it is at every point
  pub taken : taken_in 0 es ≤ 4096

-- the bound on all deliveries over the whole batch. Of every list, from every fresh consumer on a zeroed journal
unfoldable pub BatchTotal : Type 0
BatchTotal =
    (c : Configuration) (size : ℕ) (s : State) (items : List Item) → Fits c.settings → start c size ≡ done s
    → WithinTotals c (restarts_in items) (run c (fresh_world s size) items)

-- `batch-total` on the disk. It keeps no order between two syncs
unfoldable pub TotalOnDisk : Type 0
TotalOnDisk =
    (c : Configuration) (size : ℕ) (s : State) (items : List DiskItem) → Fits c.settings → start c size ≡ done s
    → WithinTotals c (restarts_on items) (run_on c (fresh_disk s size) items)
