-- `state_of` meets its contract: the mark is asked first, then the blocks. Assumes nothing.
use mathlib.Core.Path.{sym, ◌∙◌}
use Rattle.sectors.proofs.Marks.{marked_in_use, marked-unfinished, free, begun, not_begun}
use Rattle.sectors.proofs.state_of.Goals as goal

pub returns-then-number-eq2 : goal.returns-then-number-eq2
returns-then-number-eq2 c = marked_in_use _ _ (sym c.mark_of-number.ensures ∙ c.if-number-eq2.true)

pub returns-then-number-eq1 : goal.returns-then-number-eq1
returns-then-number-eq1 c = marked-unfinished _ _ (sym c.mark_of-number.ensures ∙ c.if-number-eq1.true)

pub returns-then-is_blank : goal.returns-then-is_blank
returns-then-is_blank c =
    let number = c.mark_of-number.ensures in
    free _ _ (λ e. c.if-number-eq2.false (number ∙ e)) (λ e. c.if-number-eq1.false (number ∙ e)) (sym c.is_blank.ensures ∙ c.if-is_blank.true)

pub returns-then-is_begun : goal.returns-then-is_begun
returns-then-is_begun c =
    let number = c.mark_of-number.ensures in
    begun _ _ (λ e. c.if-number-eq2.false (number ∙ e)) (λ e. c.if-number-eq1.false (number ∙ e))
    (sym c.is_blank.ensures ∙ c.if-is_blank.false)
    (sym c.is_begun.ensures ∙ c.if-is_begun.true)

pub returns : goal.returns
returns c =
    let number = c.mark_of-number.ensures in
    not_begun _ _ (λ e. c.if-number-eq2.false (number ∙ e)) (λ e. c.if-number-eq1.false (number ∙ e))
    (sym c.is_blank.ensures ∙ c.if-is_blank.false)
    (sym c.is_begun.ensures ∙ c.if-is_begun.false)
