-- `check_ranges` meets its contract. Assumes nothing.
use Rattle.cursor.specs.Snapshot.{read_ranges}
use Rattle.cursor.proofs.Walking.{Walked}
use Rattle.cursor.proofs.columns.check_ranges.Given as goal

abbrev pub invariant-loop-i : goal.invariant-loop-i
invariant-loop-i l = Walked l.committed (read_ranges l.runs 9 l.input) l.i l.last
