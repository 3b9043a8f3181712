-- `unfit_at` meets its contract: the block is one of the half that is read. Assumes nothing.
use native.Mathlib.Omega.{arith}
use mathlib.Core.Path.{◌∙◌}
use borrow.Author.Tests.{lt-ltb, le-ltb}
use Rattle.journal.proofs.Area.{part-is}
use Rattle.starts.specs.Restart.{limit}
use Rattle.starts.proofs.Halves.{limit-within}
use Rattle.starts.proofs.in_place.unfit_at.Goals as goal

pub returns-then-hi-block : goal.returns-then-hi-block
returns-then-hi-block c =
    rw (le-ltb c.args.block (limit c.args.area.now) (omega (arith, c.requires)))

-- the block lies in the area
pub overflow_mul-from : goal.overflow_mul-from
overflow_mul-from c = omega (arith, c.requires, limit-within c.args.area.now)

pub overflow_add-to : goal.overflow_add-to
overflow_add-to c = omega (arith, c.requires, limit-within c.args.area.now)

pub slice_bounds-is_sound_but_fit-end : goal.slice_bounds-is_sound_but_fit-end
slice_bounds-is_sound_but_fit-end c = omega (arith, c.requires, limit-within c.args.area.now)

pub returns : goal.returns
returns c =
    let a = c.args.area.now in
    c.is_sound_but_fit.ensures
    ∙ rw (part-is a c.args.block, lt-ltb c.args.block (limit a) (omega (arith, c.requires)))
