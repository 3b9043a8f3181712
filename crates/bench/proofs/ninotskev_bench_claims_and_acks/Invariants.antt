-- `ninotskev_bench_claims_and_acks` meets its contract. The loop's invariant: the turns from i on lead from table and cursor to
-- the end. Assumes nothing.
use Prim.Native.Nat.{◌-◌}
use mathlib.Core.Path.{◌≡◌}
use Rattle.cursor.specs.Cursor.{resume}
use Rattle.cursor.specs.View as cursor
use Rattle.lease.specs.Config.{default_config}
use Rattle.lease.specs.State.{starting_at, view, Sound}
use Rattle.bench.specs.Drivers.{rising, claims, group, works}
use Rattle.bench.proofs.ninotskev_bench_claims_and_acks.Given as goal

abbrev pub invariant-loop-i : goal.invariant-loop-i
invariant-loop-i l =
    Sound l.table × cursor.Sound l.cursor
    × (works l.window (group (view l.table) (cursor.view l.cursor)) l.i (l.n - l.i) ≡ works l.window (group (claims (starting_at default_config 0) (rising 0 l.window)) (resume 0)) 0 l.n)
