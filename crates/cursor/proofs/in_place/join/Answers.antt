-- `join` meets its contract. Assumes nothing.
use mathlib.Core.Path.{◌∙◌}
use Rattle.cursor.proofs.Edits.{join_first, join_behind}
use Rattle.cursor.proofs.in_place.join.Goals as goal

pub returns-then-at-eq0 : goal.returns-then-at-eq0
returns-then-at-eq0 c =
    let a = c.args in
    c.recorded.ensures ∙ join_first a.committed a.ends.now a.runs a.at c.if-at-eq0.true

pub returns : goal.returns
returns c =
    let a = c.args in
    c.recorded-2.ensures ∙ join_behind a.committed a.ends.now a.runs a.at c.if-at-eq0.false
