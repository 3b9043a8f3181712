-- `limit` meets its contract. Assumes nothing.
use native.Mathlib.Omega.{arith}
use mathlib.Core.Path.{◌≡◌, ap}
use Rattle.consumer.specs.State.{NextGroup}
use Rattle.starts.specs.Restart.{origin}
use Rattle.starts.proofs.Halves.{limit-within}
use Rattle.starts.proofs.limit.Goals as goal

-- the block where the walk begins is the definition's
pub overflow_add-result : goal.overflow_add-result
overflow_add-result c =
    let begins : c.origin.result.block ≡ (origin c.args.area.now).block = ap (λ (x : NextGroup). x.block) c.origin.ensures in
    omega (arith, begins, c.half_blocks.ensures, limit-within c.args.area.now)

pub returns : goal.returns
returns c =
    let begins : c.origin.result.block ≡ (origin c.args.area.now).block = ap (λ (x : NextGroup). x.block) c.origin.ensures in
    omega (arith, begins, c.half_blocks.ensures)
