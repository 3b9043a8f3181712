-- `first_fall` meets its contract. The loop's invariant: the first pair that falls is the first from i on. Assumes nothing.
use mathlib.Core.Path.{◌≡◌}
use lib.ListN.{drop}
use Rattle.types.specs.Lists.{numbers_of}
use Rattle.types.specs.Table.{first}
use Rattle.cursor.specs.Plan.{fall_rows, pair_rows}
use Rattle.consumer.proofs.plans.first_fall.Given as goal

abbrev pub invariant-loop-i : goal.invariant-loop-i
invariant-loop-i l =
    first (fall_rows l.before l.i (drop l.i (numbers_of l.offsets))) ≡ first (pair_rows (numbers_of l.offsets))
