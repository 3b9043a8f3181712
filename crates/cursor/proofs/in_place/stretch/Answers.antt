-- `stretch` meets its contract. Assumes nothing.
use mathlib.Core.Path.{◌∙◌}
use Rattle.cursor.proofs.Edits.{stretch_first, stretch_behind}
use Rattle.cursor.proofs.in_place.stretch.Goals as goal

pub returns-then-at-eq0 : goal.returns-then-at-eq0
returns-then-at-eq0 c =
    let a = c.args in
    c.recorded.ensures ∙ stretch_first a.committed a.runs a.at a.end c.if-at-eq0.true

pub returns : goal.returns
returns c =
    let a = c.args in
    c.recorded-2.ensures ∙ stretch_behind a.committed a.runs a.at a.end c.if-at-eq0.false
