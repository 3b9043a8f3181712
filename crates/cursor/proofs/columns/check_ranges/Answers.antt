-- `check_ranges` meets its contract. Assumes nothing.
use native.Mathlib.Omega.{arith}
use mathlib.Core.Path.{◌≡◌}
use Rattle.cursor.proofs.Refusals.{err_is}
use Rattle.cursor.specs.Ranges.{range}
use Rattle.cursor.specs.Place.{rangeAt}
use Rattle.cursor.specs.Snapshot.{read_ranges}
use Rattle.cursor.proofs.Snapshot.{length-read}
use Rattle.cursor.proofs.Walking.{read-at, walked-more, walked-fault, walked-many, walked-few}
use Rattle.cursor.proofs.columns.check_ranges.Goals as goal
use Rattle.cursor.proofs.columns.check_ranges.Goals.{After-read_u64-end}

here : (c : After-read_u64-end) → range c.read_u64-start.result c.read_u64-end.result ≡ rangeAt c.loop-i.i (read_ranges c.args.runs 9 c.args.input.now)
here c = rw (c.read_u64-start.ensures, c.read_u64-end.ensures) (read-at c.loop-i.i c.args.runs 9 c.args.input.now (omega arith))

pub returns-in_err-check_range : goal.returns-in_err-check_range
returns-in_err-check_range c =
    rw (err_is c.from_residual.result c.in_err-check_range.field-0.0 c.from_residual.ensures.1)
    (walked-fault c.loop-i.invariant _ (omega (arith, length-read c.args.runs 9 c.args.input.now)) (here (goal.at.returns-in_err-check_range c).After-read_u64-end) _ c.in_err-check_range.ensures.fault)

pub loop-i-preserved : goal.loop-i-preserved
loop-i-preserved c =
    walked-more c.loop-i.invariant _ (omega (arith, length-read c.args.runs 9 c.args.input.now)) (here (goal.at.loop-i-preserved c).After-read_u64-end) c.in_ok-check_range.ensures.fault

pub returns-then-runs-gt-RANGES : goal.returns-then-runs-gt-RANGES
returns-then-runs-gt-RANGES c =
    let size = length-read c.args.runs 9 c.args.input.now in
    walked-many c.loop-i.invariant (omega (arith, size)) (omega (arith, size))

pub returns : goal.returns
returns c =
    let size = length-read c.args.runs 9 c.args.input.now in
    walked-few c.loop-i.invariant (omega (arith, size)) (omega (arith, size))
