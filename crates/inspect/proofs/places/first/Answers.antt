-- `first` meets its contract. Assumes nothing.
use mathlib.Core.Path.{◌∙◌}
use borrow.Author.Tests.{eq-eqb, ne_eqb}
use Rattle.inspect.proofs.Sequence.{part-is-block}
use borrow.Author.Rules.{rules}
use Rattle.inspect.proofs.places.first.Goals as goal

pub returns-then-at-walked : goal.returns-then-at-walked
returns-then-at-walked c = rw (← c.origin-walked.ensures, eq-eqb _ _ c.if-at-walked.true)

pub returns : goal.returns
returns c =
    let e = c in
    let s = e in
    let a = s.args in
    c.opened_by.ensures
    ∙ rw (c.half_blocks.ensures, part-is-block a.area.now a.at, ← s.origin-walked.ensures, ne_eqb _ _ e.if-at-walked.false)
