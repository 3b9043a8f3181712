-- Nacks in demand 3's lists: none of them puts an offset off for longer than up to the next opening after the hard cap.
-- SPEC.md, "Nack".
use Rattle.std.specs.Prelude.{ℕ, ◌≤◌, ◌≡◌, List, [], ◌∷◌}
use Rattle.types.specs.Refusal.{Result, refused, done}
use Rattle.hours.specs.Hours.{next_opening}
use Rattle.lease.specs.Operations.{cap_from}
use Rattle.consumer.specs.State.{Configuration, State}
use Rattle.consumer.specs.Valid.{Fits}
use Rattle.starts.specs.Restart.{start}
use Rattle.machine.specs.Calls.{Event, claimed, acked, termed, nacked, progressed, committed, looked, begun, stepped, restarted, failed}
use Rattle.crash_safety.specs.Runs.{Item, run, fresh_world}

-- a deadline that is answered is at most the next opening from the hard cap on
abbrev pub InTime : Configuration → ℕ → Result ℕ → Type 0
InTime c now (refused r) = Unit {0}
InTime c now (done deadline) = deadline ≤ next_opening c.settings.hours (cap_from c.lease now)

-- that of a nack
abbrev pub NackInTime : Configuration → Event → Type 0
NackInTime c (claimed o now a) = Unit {0}
NackInTime c (acked o g a) = Unit {0}
NackInTime c (termed o g a) = Unit {0}
NackInTime c (nacked o g now d a) = InTime c now a
NackInTime c (progressed o g now a) = Unit {0}
NackInTime c (committed bound a) = Unit {0}
NackInTime c (looked q a) = Unit {0}
NackInTime c (begun a) = Unit {0}
NackInTime c (stepped a) = Unit {0}
NackInTime c (restarted a) = Unit {0}
NackInTime c (failed new) = Unit {0}

unfoldable pub NacksInTime : Configuration → List Event → Type 0
NacksInTime c [] = Unit {0}
NacksInTime c (e ∷ es) = NackInTime c e × NacksInTime c es

-- `nack-within_cap` of every nack of every list. By the hard cap and the hours of the configuration
unfoldable pub NacksWithinCap : Type 0
NacksWithinCap =
    (c : Configuration) (size : ℕ) (s : State) (items : List Item) → Fits c.settings → start c size ≡ done s
    → NacksInTime c (run c (fresh_world s size) items)
