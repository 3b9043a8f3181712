-- `pair_at` meets its contract. Assumes nothing.
use native.Mathlib.Omega.{arith}
use Rattle.tables.proofs.Merge.{pair-there, pair_missing}
use Rattle.tables.proofs.counts.pair_at.Goals as goal
use Rattle.tables.proofs.counts.pair_at.Goals.{else-i-len-via-then-i-len+then-i-keys+else-i-counts, else-i-len-via-then-i-len+else-i-keys, else-i-len-via-else-i-len}

pub returns-then-i-counts : goal.returns-then-i-counts
returns-then-i-counts c = pair-there c.args.len c.args.i c.args.keys.now c.args.counts.now c.if-i-len.true c.if-i-keys.true c.if-i-counts.true

pub returns : goal.returns
returns c =
    pair_missing c.args.len c.args.i c.args.keys.now c.args.counts.now
    (elim c.else-i-len.branch [
      | else-i-len-via-then-i-len+then-i-keys+else-i-counts w ↦ omega arith
      | else-i-len-via-then-i-len+else-i-keys w ↦ omega arith
      | else-i-len-via-else-i-len w ↦ omega arith
    ])
