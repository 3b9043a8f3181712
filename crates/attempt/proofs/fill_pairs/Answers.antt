-- `fill_pairs` meets its contract. Assumes nothing.
use native.Mathlib.Omega.{arith}
use mathlib.Core.Path.{◌∙◌}
use lib.ListN.{get_or, length-set}
use Rattle.attempt.specs.Snapshot.{apart}
use Rattle.attempt.proofs.Reading.{get-more}
use Rattle.attempt.proofs.fill_pairs.Goals as goal

pub loop-i-preserved : goal.loop-i-preserved
loop-i-preserved c =
    let l = c.loop-i in
    let a = c.args in (
      omega arith,
      simp length-set l.invariant.1,
      get-more (apart (get_or a.input.now 0 0)) a.input.now a.n l.i l.pairs _ (omega arith) (omega arith) c.get_pair.ensures ∙ l.invariant.2,
    )
