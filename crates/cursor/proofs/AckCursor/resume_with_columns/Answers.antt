-- `AckCursor::resume_with_columns` meets its contract. Assumes nothing.
use Prim.Native.Nat.{◌≤◌}
use native.Mathlib.Omega.{arith}
use mathlib.Core.Path.{ap, sym, ◌∙◌}
use Rattle.cursor.proofs.Refusals.{err_is}
use Rattle.types.specs.Zipped.{zipped}
use Rattle.cursor.specs.Ranges.{range}
use Rattle.cursor.specs.declared.AckCursor.{AckCursor}
use Rattle.cursor.proofs.Made.{columns-fit, columns-few, columns-put, resume_refused, resumed}
use Rattle.cursor.proofs.Walking.{columns-size}
use Rattle.cursor.proofs.AckCursor.resume_with_columns.Goals as goal
use Rattle.cursor.proofs.AckCursor.resume_with_columns.Goals.{After-min-runs}

pub returns-in_err-check_columns : goal.returns-in_err-check_columns
returns-in_err-check_columns c =
    rw (err_is c.from_residual.result c.in_err-check_columns.field-0.0 c.from_residual.ensures.1)
    (resume_refused c.args.committed.0 (zipped range c.args.starts.now c.args.ends.now) _ c.in_err-check_columns.ensures)

-- the ranges of both columns are few enough
few : (c : After-min-runs) → c.min-runs.result ≤ 128
few c = let n = c.args.committed.0 in columns-few n c.args.starts.now c.args.ends.now c.in_ok-check_columns.ensures c.min-runs.result c.min-runs.ensures

pub copy-requires : goal.copy-requires
copy-requires c = let r = c.min-runs.ensures in (omega (arith, few (goal.at.copy-requires c).After-min-runs), omega (arith, r))

pub copy-requires-2 : goal.copy-requires-2
copy-requires-2 c = let r = c.min-runs.ensures in (omega (arith, few (goal.at.copy-requires-2 c).After-min-runs), omega (arith, r))

pub returns : goal.returns
returns c =
    let a = c.args in
    let xs = a.starts.now in
    let ys = a.ends.now in
    let t = c.in_ok-check_columns.ensures in
    let r = c.min-runs in
    let k = ap (λ (g : AckCursor). g.committed) c.resume-cursor.ensures.literal in
    rw k
    (resumed a.committed.0 (zipped range xs ys) _ (omega arith) (columns-fit xs ys (λ i. omega (arith, c.type_inv.ends i))) t
    (r.ensures ∙ sym (columns-size xs ys))
    (columns-put a.committed.0 xs ys t r.result r.ensures _ _ _ _ c.copy.ensures c.copy-2.ensures))
