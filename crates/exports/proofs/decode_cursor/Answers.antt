-- `decode_cursor` meets its contract: a snapshot that was tested is listed where there is room. Assumes nothing.
use native.Mathlib.Omega.{arith}
use Rattle.std.proofs.lemmas.Result.{err_from_is_err_and}
use Rattle.exports.proofs.Snapshots.{has_room, cursor-refused, cursor_without_room, cursor-listed}
use Rattle.exports.proofs.decode_cursor.Goals as goal

pub returns-in_err-figures : goal.returns-in_err-figures
returns-in_err-figures c =
    let a = c.args in
    let p = err_from_is_err_and c.from_residual.result c.from_residual.ensures.1 in
    rw p.1 (cursor-refused a.input.now a.starts.now a.ends.now _ c.in_err-figures.ensures _ p.2)

pub returns-in_err-room_for : goal.returns-in_err-room_for
returns-in_err-room_for c =
    let a = c.args in
    let p = err_from_is_err_and c.from_residual-in_err-room_for.result c.from_residual-in_err-room_for.ensures.1 in
    rw (p.1, p.2) (cursor_without_room a.input.now a.starts.now a.ends.now _ c.in_ok-figures.ensures _ c.in_err-room_for.ensures)

pub read_column-requires : goal.read_column-requires
read_column-requires c = (omega (arith, c.in_ok-figures.ensures.figures.within), (has_room c.in_ok-room_for.ensures).0)

pub read_column-requires-2 : goal.read_column-requires-2
read_column-requires-2 c = (omega (arith, c.in_ok-figures.ensures.figures.within), (has_room c.in_ok-room_for.ensures).1)

pub returns : goal.returns
returns c =
    let a = c.args in
    cursor-listed a.input.now a.starts.now a.ends.now _ c.in_ok-figures.ensures c.in_ok-room_for.ensures _ _ c.read_column.ensures c.read_column-2.ensures
