-- `insert` meets its contract. Assumes nothing.
use Rattle.tables.proofs.Gaps.{gap_opened, gap_at_end}
use Rattle.tables.proofs.insert.Goals as goal
use Rattle.tables.proofs.insert.Goals.{then-at-len-2, else-at-len-2}

pub returns-after-at-len-2 : goal.returns-after-at-len-2
returns-after-at-len-2 g c =
    let a = c.args in
    elim c.if-at-len-2.branch [
      | then-at-len-2 w ↦ rw (w.column-is, w.copy_within.ensures.after) (gap_opened a.column.now a.len a.at a.x c.if-at-len.true c.if-len-column.true)
      | else-at-len-2 w ↦ rw w.column-is (gap_at_end a.column.now a.len a.at a.x c.if-at-len.true w.if-at-len-2.false c.if-len-column.true)
    ]
