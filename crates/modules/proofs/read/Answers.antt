-- `read` is safe and ends. Assumes nothing.
use native.Mathlib.Omega.{arith}
use mathlib.Core.Path.{refl}
use borrow.Author.Rules.{rules}
use Rattle.modules.proofs.read.Goals as goal

pub loop-init : goal.loop-init
loop-init c = (
  refl,
  refl,
  record {
    input = rw c.nothing_read.ensures (record { ordered = omega arith; inside = omega arith });
    n = omega arith;
  },
)

pub loop-preserved : goal.loop-preserved
loop-preserved c = (search rules, search rules, search rules)
