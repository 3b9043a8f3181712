-- `journal::header_behind` meets its contract. The invariant: no block between has kind 1 and a right check. Assumes
-- nothing.
use native.Mathlib.Omega.{arith}
use Rattle.journal.proofs.Walker.{search_none, search_more, search_found, search_ended}
use Rattle.journal.proofs.header_behind.Goals as goal

pub returns-then-end-at : goal.returns-then-end-at
returns-then-end-at c =
    search_ended _ _ _ c.args.at (omega (arith, c.min-end.ensures))
    (search_none _ _ _ (omega arith))

pub returns-then-is_head : goal.returns-then-is_head
returns-then-is_head c =
    search_found _ _ _ _ c.is_head.ensures _ c.loop-i.invariant.0
    (omega (arith, c.loop-i-test.true, c.min-end.ensures))
    c.if-is_head.true

pub loop-i-preserved : goal.loop-i-preserved
loop-i-preserved c =
    (omega arith, search_more _ _ _ _ c.is_head.ensures c.if-is_head.false c.loop-i.invariant.1)

pub returns : goal.returns
returns c = search_ended _ _ _ _ (omega (arith, c.min-end.ensures)) c.loop-i.invariant.1
