-- `read_column` meets its contract. The loop's invariant: the first i places are filled, the others as they were.
-- Assumes nothing.
use native.Mathlib.Omega.{arith}
use Rattle.types.proofs.Loops.{filling}
use Rattle.cursor.proofs.Walking.{column-more, column-all}
use Rattle.cursor.proofs.columns.read_column.Goals as goal

pub loop-i-init : goal.loop-i-init
loop-i-init c = filling _ _ _ c.requires.1

pub bounds-column-i : goal.bounds-column-i
bounds-column-i c = omega (arith, c.loop-i.invariant.full)

pub loop-i-preserved : goal.loop-i-preserved
loop-i-preserved c =
    let a = c.args in
    column-more a.input.now a.count a.from _ c.read_u64.ensures (omega arith) c.loop-i.invariant

pub shape_of-column : goal.shape_of-column
shape_of-column c = c.loop-i.invariant.full

pub returns : goal.returns
returns c =
    let a = c.args in
    column-all a.input.now a.count a.from (omega arith) c.loop-i.invariant
