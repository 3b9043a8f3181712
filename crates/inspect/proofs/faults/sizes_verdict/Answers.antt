-- `sizes_verdict` meets its contract: each test is a row of the table. Assumes nothing.
use native.Mathlib.Omega.{arith}
use Rattle.inspect.proofs.Rows.{cursor-short, cursor-long, attempt_short, attempt_long, miscounted, unfit, fit}
use Rattle.inspect.proofs.faults.sizes_verdict.Goals as goal
use Rattle.inspect.proofs.faults.sizes_verdict.Goals.{
  then-header-lt13-via-then-header-lt13,
  then-header-lt13-via-else-header-lt13+then-header-gt2061,
  then-header-lt9-via-then-header-lt9,
  then-header-lt9-via-else-header-lt9+then-header-gt1545,
  then-hi-at-via-then-hi-at,
  then-hi-at-via-else-hi-at+then-hi-at-2,
}

pub returns-then-header-lt13 : goal.returns-then-header-lt13
returns-then-header-lt13 c =
    elim c.then-header-lt13.branch [
      | then-header-lt13-via-then-header-lt13 w ↦ cursor-short _ _ _ _ c.read_header-header.ensures w.if-header-lt13.true
      | then-header-lt13-via-else-header-lt13+then-header-gt2061 w ↦ cursor-long _ _ _ _ c.read_header-header.ensures w.if-header-lt13.false w.if-header-gt2061.true
    ]

pub returns-then-header-lt9 : goal.returns-then-header-lt9
returns-then-header-lt9 c =
    elim c.then-header-lt9.branch [
      | then-header-lt9-via-then-header-lt9 w ↦ attempt_short _ _ _ _ c.read_header-header.ensures c.if-header-lt13.false c.if-header-gt2061.false w.if-header-lt9.true
      | then-header-lt9-via-else-header-lt9+then-header-gt1545 w ↦
          attempt_long _ _ _ _ c.read_header-header.ensures c.if-header-lt13.false c.if-header-gt2061.false w.if-header-lt9.false w.if-header-gt1545.true
    ]

pub returns-then-bodies-counted : goal.returns-then-bodies-counted
returns-then-bodies-counted c = miscounted _ _ _ _ c.read_header-header.ensures (omega arith) (omega arith) (omega arith) (omega arith) _ c.bodies_for-counted.ensures c.if-bodies-counted.true

pub returns-then-hi-at : goal.returns-then-hi-at
returns-then-hi-at c =
    elim c.then-hi-at.branch [
      | then-hi-at-via-then-hi-at w ↦ unfit _ _ _ _ c.read_header-header.ensures (omega arith) (omega arith) (omega arith) (omega arith) _ c.bodies_for-counted.ensures c.if-bodies-counted.false (omega (arith, w.if-hi-at.true))
      | then-hi-at-via-else-hi-at+then-hi-at-2 w ↦
          unfit _ _ _ _ c.read_header-header.ensures (omega arith) (omega arith) (omega arith) (omega arith) _ c.bodies_for-counted.ensures c.if-bodies-counted.false (omega (arith, w.if-hi-at.false, w.if-hi-at-2.true))
    ]

pub returns : goal.returns
returns c = fit _ _ _ _ c.read_header-header.ensures (omega arith) (omega arith) (omega arith) (omega arith) _ c.bodies_for-counted.ensures c.if-bodies-counted.false (omega (arith, c.if-hi-at.false, c.if-hi-at-2.false))
