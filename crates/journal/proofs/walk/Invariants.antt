-- `journal::walk` meets its contract. The invariant: the walk from where the loop stands, behind the last group
-- found, answers what the whole walk answers. Assumes nothing.
use Prim.Native.Nat.{◌-◌}
use mathlib.Core.Path.{◌≡◌}
use Rattle.journal.specs.Walks.{walk_from, walk}
use Rattle.types.specs.Refused.{option_of}
use Rattle.journal.proofs.walk.Given as goal

abbrev pub invariant-loop-at : goal.invariant-loop-at
invariant-loop-at l =
    walk_from l.area l.end (option_of (λ n. n) l.last) l.number l.at ≡ walk l.area l.end l.first_number l.first_block

abbrev pub decreases-loop-at : goal.decreases-loop-at
decreases-loop-at l = l.end - l.at
