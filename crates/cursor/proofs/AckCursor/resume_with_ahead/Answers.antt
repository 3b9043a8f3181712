-- `AckCursor::resume_with_ahead` meets its contract. Assumes nothing.
use Prim.Native.Nat.{◌≤◌}
use native.Mathlib.Omega.{arith}
use mathlib.Core.Path.{ap, refl, sym}
use lib.ListN.{length}
use Rattle.cursor.proofs.Refusals.{err_is}
use Rattle.types.proofs.Loops.{filling}
use Rattle.types.proofs.Table.{first_none}
use Rattle.cursor.specs.Cursor.{resume_table}
use Rattle.cursor.specs.declared.AckCursor.{AckCursor}
use Rattle.cursor.specs.declared.Range.{Range}
use Rattle.cursor.proofs.Snapshot.{passed-few}
use Rattle.cursor.proofs.Made.{field-put, ranges-put, resume_refused, resumed}
use Rattle.cursor.proofs.AckCursor.resume_with_ahead.Goals as goal
use Rattle.cursor.proofs.AckCursor.resume_with_ahead.Goals.{In_ok-check_ahead}

pub returns-in_err-check_ahead : goal.returns-in_err-check_ahead
returns-in_err-check_ahead c =
    rw (err_is c.from_residual.result c.in_err-check_ahead.field-0.0 c.from_residual.ensures.1)
    (resume_refused c.args.committed.0 c.args.ahead.now _ c.in_err-check_ahead.ensures.fault)

few : (c : In_ok-check_ahead) → length c.args.ahead.now ≤ 128
few c = passed-few c.args.committed.0 c.args.ahead.now (first_none (resume_table c.args.committed.0 c.args.ahead.now) (sym c.in_ok-check_ahead.ensures.fault))

pub loop-i-init : goal.loop-i-init
loop-i-init c =
    let h = few (goal.at.loop-i-init c).In_ok-check_ahead in
    let new = c.resume-cursor.ensures.literal in (
      filling _ _ _ (omega (arith, h, ap (λ (g : AckCursor). length g.starts) new)),
      filling _ _ _ (omega (arith, h, ap (λ (g : AckCursor). length g.ends) new)),
      ap (λ (g : AckCursor). g.committed) new,
    )

pub loop-i-preserved : goal.loop-i-preserved
loop-i-preserved c =
    let w = c.loop-i.invariant in
    let all = c.args.ahead.now in
    (field-put (λ (r : Range). r.start) all (omega arith) w.0, field-put (λ (r : Range). r.end) all (omega arith) w.1, w.2)

pub returns : goal.returns
returns c =
    let w = c.loop-i.invariant in
    let a = c.args in
    rw w.2
    (resumed a.committed.0 a.ahead.now _ (omega arith) c.in_ok-check_ahead.ensures.fits c.in_ok-check_ahead.ensures.fault refl (ranges-put a.committed.0 a.ahead.now (omega arith) w.0 w.1))
