-- `or_none` meets its contract. Assumes nothing.
use native.Mathlib.Omega.{arith}
use Rattle.text.proofs.Putting.{says_nothing}
use Rattle.shown.proofs.Lists.{some-there}
use Rattle.shown.proofs.or_none.Goals as goal

pub returns-else-n-eq0 : goal.returns-else-n-eq0
returns-else-n-eq0 c = rw (some-there c.args.n (omega arith)) says_nothing
