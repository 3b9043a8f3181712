-- `claim_below` meets its contract. The loop's invariant: the claims from i on lead from the table to the end. Assumes nothing.
use Prim.Native.Nat.{◌-◌}
use mathlib.Core.Path.{◌≡◌}
use Rattle.lease.specs.Config.{default_config}
use Rattle.lease.specs.State.{starting_at, view, Sound}
use Rattle.bench.specs.Drivers.{rising, claims}
use Rattle.bench.proofs.claim_below.Given as goal

abbrev pub invariant-loop-i : goal.invariant-loop-i
invariant-loop-i l = Sound l.table × (claims (view l.table) (rising l.i (l.n - l.i)) ≡ claims (starting_at default_config 0) (rising 0 l.n))
