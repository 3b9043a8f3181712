-- `journal::group_at` meets its contract: the header is the block's part of the area, and its counts bound the
-- bodies. Assumes nothing.
use Rattle.std.proofs.lemmas.Result.{err_from_is_err_and}
use Rattle.journal.proofs.Walker.{turn-nothing, turn-counted, turn-bodies}
use Rattle.journal.proofs.group_at.Goals as goal

pub returns-then-not-is_sound_header : goal.returns-then-not-is_sound_header
returns-then-not-is_sound_header c = turn-nothing _ _ _ _ _ c.is_sound_header.ensures c.if-not-is_sound_header.true

pub bodies_at-requires : goal.bodies_at-requires
bodies_at-requires c =
    turn-counted c.args.area.now c.args.hi c.args.number c.args.at _
    c.is_sound_header.ensures
    c.if-not-is_sound_header.false
    _
    _
    c.read_u16-cursor_len.ensures
    c.read_u16-attempt_len.ensures
    c.requires.1

pub returns-in_err-behind : goal.returns-in_err-behind
returns-in_err-behind c =
    let p = err_from_is_err_and c.from_residual.result c.from_residual.ensures.1 in
    rw (p.1, p.2)
    (turn-bodies _ _ _ _ _
    c.is_sound_header.ensures
    c.if-not-is_sound_header.false
    _
    _
    c.read_u16-cursor_len.ensures
    c.read_u16-attempt_len.ensures
    _
    c.in_err-behind.ensures)

pub returns : goal.returns
returns c =
    turn-bodies _ _ _ _ _
    c.is_sound_header.ensures
    c.if-not-is_sound_header.false
    _
    _
    c.read_u16-cursor_len.ensures
    c.read_u16-attempt_len.ensures
    _
    c.in_ok-behind.ensures
