-- `write_pairs` meets its contract. The loop's invariant: the first i places of the columns are the first i pairs.
-- Assumes nothing.
use native.Mathlib.Omega.{arith}
use mathlib.Core.Path.{refl}
use lib.ListN.{length-set}
use Rattle.attempt.proofs.Writing.{columns-more}
use Rattle.attempt.proofs.write_pairs.Goals as goal

pub loop-i-preserved : goal.loop-i-preserved
loop-i-preserved c =
    let l = c.loop-i in
    let a = c.args in (
      omega arith,
      simp length-set l.invariant.1,
      simp length-set l.invariant.2,
      columns-more a.pairs.now l.offsets l.attempts l.i _ _ (omega arith) (omega arith) (omega arith) refl l.invariant.3,
    )
