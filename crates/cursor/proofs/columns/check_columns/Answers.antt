-- `check_columns` meets its contract. Assumes nothing.
use native.Mathlib.Omega.{arith}
use Rattle.cursor.proofs.Refusals.{err_is}
use Rattle.cursor.proofs.Walking.{columns-size, columns-at, walked-more, walked-fault, walked-many, walked-few}
use Rattle.cursor.proofs.columns.check_columns.Goals as goal

pub returns-in_err-check_range : goal.returns-in_err-check_range
returns-in_err-check_range c =
    let xs = c.args.starts.now in
    let ys = c.args.ends.now in
    rw (err_is c.from_residual.result c.in_err-check_range.field-0.0 c.from_residual.ensures.1)
    (walked-fault c.loop-i.invariant _ (omega (arith, columns-size xs ys)) (columns-at c.loop-i.i xs ys (omega arith) (omega arith)) _ c.in_err-check_range.ensures.fault)

pub loop-i-preserved : goal.loop-i-preserved
loop-i-preserved c =
    let xs = c.args.starts.now in
    let ys = c.args.ends.now in
    walked-more c.loop-i.invariant _ (omega (arith, columns-size xs ys)) (columns-at c.loop-i.i xs ys (omega arith) (omega arith)) c.in_ok-check_range.ensures.fault

pub returns-then-n-gt-RANGES : goal.returns-then-n-gt-RANGES
returns-then-n-gt-RANGES c =
    let size = columns-size c.args.starts.now c.args.ends.now in
    walked-many c.loop-i.invariant (omega (arith, size)) (omega (arith, size))

pub returns : goal.returns
returns c =
    let size = columns-size c.args.starts.now c.args.ends.now in
    walked-few c.loop-i.invariant (omega (arith, size)) (omega (arith, size))
