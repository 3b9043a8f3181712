-- `check_columns` meets its contract. Assumes nothing.
use Rattle.types.specs.Zipped.{zipped}
use Rattle.cursor.specs.Ranges.{range}
use Rattle.cursor.proofs.Walking.{Walked}
use Rattle.cursor.proofs.columns.check_columns.Given as goal

abbrev pub invariant-loop-i : goal.invariant-loop-i
invariant-loop-i l = Walked l.committed (zipped range l.starts l.ends) l.i l.last
