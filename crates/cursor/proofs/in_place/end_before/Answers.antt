-- `end_before` meets its contract. Assumes nothing.
use Rattle.types.proofs.Zipped.{get_d_behind}
use Rattle.cursor.proofs.in_place.end_before.Goals as goal

pub returns-else-at-eq0 : goal.returns-else-at-eq0
returns-else-at-eq0 c =
    let a = c.args in
    get_d_behind a.committed a.ends.now a.at 0 c.if-at-eq0.false
