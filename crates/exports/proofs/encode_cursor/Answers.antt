-- `encode_cursor` meets its contract: ranges that passed their test are written. Assumes nothing.
use Rattle.std.proofs.lemmas.Result.{err_from_is_err_and}
use Rattle.exports.proofs.Snapshots.{columns-fit, cursor-written, cursor_not_written}
use Rattle.exports.proofs.encode_cursor.Goals as goal
use mathlib.Core.Path.{◌∙◌}

pub returns-in_err-check_columns : goal.returns-in_err-check_columns
returns-in_err-check_columns c =
    let a = c.args in
    let p = err_from_is_err_and c.from_residual.result c.from_residual.ensures.1 in
    rw (p.1, p.2) (cursor_not_written a.committed a.starts.now a.ends.now a.at a.out.now _ c.in_err-check_columns.ensures)

pub encode_columns-requires : goal.encode_columns-requires
encode_columns-requires c =
    let a = c.args in
    columns-fit a.committed a.starts.now a.ends.now c.in_ok-check_columns.ensures _ c.min-n.ensures

pub returns : goal.returns
returns c =
    let a = c.args in
    c.encode_columns.ensures ∙ cursor-written a.committed a.starts.now a.ends.now c.in_ok-check_columns.ensures _ c.min-n.ensures a.at a.out.now
