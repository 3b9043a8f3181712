-- `check_snapshot` meets its contract. Assumes nothing.
use native.Mathlib.Omega.{arith}
use mathlib.Core.Path.{refl, sym, ◌∙◌}
use Rattle.cursor.proofs.Refusals.{err_is}
use Rattle.cursor.specs.declared.SnapshotError.TheVariants.{Ranges}
use Rattle.cursor.proofs.Reading.{frame_refused, frame_fits, ranges-left}
use Rattle.cursor.proofs.columns.check_snapshot.Goals as goal

pub returns-in_err-check_frame : goal.returns-in_err-check_frame
returns-in_err-check_frame c =
    rw (err_is c.from_residual.result c.in_err-check_frame.field-0.0 c.from_residual.ensures.1)
    (record { fault = frame_refused c.args.input.now _ c.in_err-check_frame.ensures; figures = tt })

pub overflow_sub-runs : goal.overflow_sub-runs
overflow_sub-runs c = (frame_fits c.args.input.now c.in_ok-check_frame.ensures).0

pub check_ranges-requires : goal.check_ranges-requires
check_ranges-requires c = (frame_fits c.args.input.now c.in_ok-check_frame.ensures).1

pub returns-in_err-check_ranges : goal.returns-in_err-check_ranges
returns-in_err-check_ranges c =
    let r = c.from_residual-in_err-check_ranges in
    rw (err_is r.result (Ranges c.in_err-check_ranges.field-0.0) r.ensures.1)
    (record { fault = rw c.read_u64-committed.ensures at c.in_err-check_ranges.ensures ∙ sym (ranges-left c.args.input.now c.in_ok-check_frame.ensures); figures = tt })

pub returns : goal.returns
returns c =
    record {
      fault = rw c.read_u64-committed.ensures at c.in_ok-check_ranges.ensures ∙ sym (ranges-left c.args.input.now c.in_ok-check_frame.ensures);
      figures = record { committed = c.read_u64-committed.ensures; runs = refl; within = omega arith };
    }
