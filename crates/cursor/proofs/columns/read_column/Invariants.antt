-- `read_column` meets its contract. The loop's invariant: the first i places are filled, the others as they were.
-- Assumes nothing.
use Rattle.types.proofs.Loops.{Filling}
use Rattle.cursor.specs.Snapshot.{column_from}
use Rattle.cursor.proofs.columns.read_column.Given as goal

abbrev pub invariant-loop-i : goal.invariant-loop-i
invariant-loop-i l = Filling (column_from l.count l.from l.input) l.initial.column l.column l.count l.i
