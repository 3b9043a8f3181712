-- `remove` meets its contract. Assumes nothing.
use mathlib.Core.Path.{◌∙◌}
use Rattle.tables.proofs.Gaps.{gap_closed}
use Rattle.tables.proofs.remove.Goals as goal

pub returns-then-len-column : goal.returns-then-len-column
returns-then-len-column g c =
    let a = c.args in
    c.copy_within.ensures.after ∙ gap_closed a.column.now a.len a.from a.to c.if-from-to.true c.if-to-len.true c.if-len-column.true
