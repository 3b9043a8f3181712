-- `apply` meets its contract. Assumes nothing.
use mathlib.Core.Path.{sym, ◌∙◌}
use lib.Seq.{set_out}
use Rattle.cursor.proofs.Edits.{edited-is}
use Rattle.cursor.proofs.in_place.apply.Goals as goal

pub returns-then-at-column : goal.returns-then-at-column
returns-then-at-column c =
    let a = c.args in
    edited-is a.runs a.column.now c.in-Set.is

pub returns-else-at-column : goal.returns-else-at-column
returns-else-at-column c =
    let a = c.args in
    sym (set_out a.column.now _ _ c.if-at-column.false) ∙ edited-is a.runs a.column.now c.in-Set.is

pub returns-in-Insert : goal.returns-in-Insert
returns-in-Insert c =
    let a = c.args in
    c.insert.ensures ∙ edited-is a.runs a.column.now c.in-Insert.is

pub returns-in-Remove : goal.returns-in-Remove
returns-in-Remove c =
    let a = c.args in
    c.remove.ensures ∙ edited-is a.runs a.column.now c.in-Remove.is
