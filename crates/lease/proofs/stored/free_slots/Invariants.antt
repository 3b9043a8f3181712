-- `free_slots` meets its contract. The loop's invariant: the first i slots are stored. Assumes nothing.
use mathlib.Core.Path.{◌≡◌}
use lib.ListN.{take}
use Rattle.tables.specs.Slots.{upTo}
use Rattle.lease.proofs.stored.free_slots.Given as goal

abbrev pub invariant-loop-i : goal.invariant-loop-i
invariant-loop-i l = take l.i l.slots ≡ upTo l.i
