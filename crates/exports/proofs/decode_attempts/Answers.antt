-- `decode_attempts` meets its contract: a snapshot that was tested is listed where there is room. Assumes nothing.
use Rattle.std.proofs.lemmas.Result.{err_from_is_err_and}
use Rattle.exports.proofs.Snapshots.{has_room, pairs-refused, pairs-fit, pairs_without_room, pairs-listed}
use Rattle.exports.proofs.decode_attempts.Goals as goal

pub returns-in_err-n : goal.returns-in_err-n
returns-in_err-n c =
    let a = c.args in
    let p = err_from_is_err_and c.from_residual.result c.from_residual.ensures.1 in
    rw (p.1, p.2) (pairs-refused a.input.now a.offsets.now a.attempts.now _ c.in_err-n.ensures)

pub returns-in_err-room_for : goal.returns-in_err-room_for
returns-in_err-room_for c =
    let a = c.args in
    let p = err_from_is_err_and c.from_residual-in_err-room_for.result c.from_residual-in_err-room_for.ensures.1 in
    rw (p.1, p.2) (pairs_without_room a.input.now a.offsets.now a.attempts.now _ c.in_ok-n.ensures _ c.in_err-room_for.ensures)

pub read_offsets-requires : goal.read_offsets-requires
read_offsets-requires c =
    let a = c.args in
    (pairs-fit a.input.now a.offsets.now a.attempts.now _ c.in_ok-n.ensures, (has_room c.in_ok-room_for.ensures).0)

pub read_attempts-requires : goal.read_attempts-requires
read_attempts-requires c =
    let a = c.args in
    (pairs-fit a.input.now a.offsets.now a.attempts.now _ c.in_ok-n.ensures, (has_room c.in_ok-room_for.ensures).1)

pub returns : goal.returns
returns c =
    let a = c.args in
    pairs-listed a.input.now a.offsets.now a.attempts.now _ c.in_ok-n.ensures c.in_ok-room_for.ensures _ _ c.read_offsets.ensures c.read_attempts.ensures
