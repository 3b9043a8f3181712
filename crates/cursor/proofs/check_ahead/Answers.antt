-- `check_ahead` meets its contract. Assumes nothing.
use native.Mathlib.Omega.{arith}
use mathlib.Core.Path.{refl}
use lib.ListN.{get_or}
use Rattle.cursor.proofs.Refusals.{err_is}
use Rattle.cursor.specs.Ranges.{range}
use Prim.Native.Nat.{ℕ, ◌≤◌}
use borrow.Author.Count.{below_more}
use Rattle.types.specs.Limits.{MAX}
use Rattle.cursor.proofs.Made.{ends-read}
use Rattle.cursor.proofs.Walking.{walked-none, walked-more, walked-fault, walked-many, walked-few}
use Rattle.cursor.proofs.check_ahead.Goals as goal

pub loop-range-init : goal.loop-range-init
loop-range-init c = (walked-none _ _, λ k h. absurd (omega arith))

pub returns-in_err-check_range-clause-fault : goal.returns-in_err-check_range-clause-fault
returns-in_err-check_range-clause-fault c =
    rw (err_is c.from_residual.result c.in_err-check_range.field-0.0 c.from_residual.ensures.1)
    (walked-fault c.loop-range.invariant.0 _ (omega arith) refl _ c.in_err-check_range.ensures.fault)

pub returns-in_err-check_range-clause-fits : goal.returns-in_err-check_range-clause-fits
returns-in_err-check_range-clause-fits c = rw (err_is c.from_residual.result c.in_err-check_range.field-0.0 c.from_residual.ensures.1) tt

pub loop-range-preserved : goal.loop-range-preserved
loop-range-preserved c =
    let w = c.loop-range.invariant in (
      walked-more w.0 _ (omega arith) refl c.in_ok-check_range.ensures.fault,
      below_more (λ (k : ℕ). (get_or c.args.ahead.now k (range 0 0)).end ≤ MAX) c.loop-range.range-index w.1 c.in_ok-check_range.ensures.fits,
    )

pub returns-then-ahead-gt-RANGES-clause-fault : goal.returns-then-ahead-gt-RANGES-clause-fault
returns-then-ahead-gt-RANGES-clause-fault c = walked-many c.loop-range.invariant.0 (omega arith) (omega arith)

pub returns-clause-fault : goal.returns-clause-fault
returns-clause-fault c = walked-few c.loop-range.invariant.0 (omega arith) (omega arith)

pub returns-clause-fits : goal.returns-clause-fits
returns-clause-fits c = ends-read c.args.ahead.now (λ k h. c.loop-range.invariant.1 k (omega arith))
