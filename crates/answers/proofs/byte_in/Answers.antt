-- `byte_in` meets its contract: a place of the first list, or of the one behind it. Assumes nothing.
use mathlib.Core.Path.{sym, ◌∙◌}
use borrow.Author.Rules.{rules}
use Rattle.answers.proofs.Places.{at_front, at-behind}
use Rattle.answers.proofs.byte_in.Goals as goal

pub returns-then-i-n : goal.returns-then-i-n
returns-then-i-n c =
    let a = c.args in
    c.byte_at.ensures ∙ sym (at_front a.front.now a.behind.now a.i c.if-i-n.true)

pub returns : goal.returns
returns c =
    let a = c.args in
    c.byte_at-2.ensures ∙ sym (at-behind a.front.now a.behind.now a.i c.if-i-n.false)
