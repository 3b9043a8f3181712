-- `run_from` meets its contract. The invariant: what is expected at the block that is reached. Assumes nothing.
use Prim.Native.Nat.{◌+◌, ◌-◌, ◌*◌, ◌<◌, ◌≤◌}
use native.Mathlib.Omega.{arith}
use mathlib.Core.Path.{◌≡◌}
use lib.ListN.{length}
use Rattle.inspect.specs.Places.{place_at}
use borrow.Author.Rules.{rules}
use Rattle.inspect.proofs.listing.run_from.Given as goal

abbrev pub invariant-loop-end : goal.invariant-loop-end
invariant-loop-end l = l.after ≡ place_at l.area l.half l.end
