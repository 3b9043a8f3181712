-- `partition_point` meets its contract. Assumes nothing.
use native.Mathlib.Numerals.{add-one}
use mathlib.Core.Path.{ap, ◌∙◌}
use Prim.Native.Nat.{ℕ, ◌+◌}
use lib.ListN.{take}
use Rattle.types.specs.Sorted.{below}
use Rattle.tables.proofs.Search.{boundary_below}
use Rattle.cursor.proofs.in_place.partition_point.Goals as goal

pub returns : goal.returns
returns c =
    let ks = take c.args.n c.args.column.now in
    boundary_below (c.args.x + 1) c.position_after.result 0 ks c.requires c.position_after.ensures
    ∙ ap (λ (k : ℕ). below k ks) (add-one c.args.x)
