-- `Hours::test` meets its contract. Assumes nothing.
use mathlib.Core.Path.{sym, ◌∙◌}
use Rattle.hours.proofs.View.{none_tested, bits_above, shift-above, never, accepted}
use Rattle.hours.proofs.Hours.test.Goals as goal
use Rattle.hours.proofs.Hours.test.Goals.{then-any_above-via-then-any_above, then-any_above-via-else-any_above+then-self-ge-WEEK}

pub returns-then-not-self : goal.returns-then-not-self
returns-then-not-self c = none_tested c.args.self c.if-not-self.true

pub returns-then-any_above : goal.returns-then-any_above
returns-then-any_above c = elim c.then-any_above.branch [
  | then-any_above-via-then-any_above w ↦ bits_above c.args.self c.if-not-self.false (sym c.any_above.ensures ∙ w.if-any_above.true)
  | then-any_above-via-else-any_above+then-self-ge-WEEK w ↦ shift-above c.args.self c.if-not-self.false (sym c.any_above.ensures ∙ w.if-any_above.false) w.if-self-ge-WEEK.true
]

pub returns-then-first_open-eq-WEEK_HALVES : goal.returns-then-first_open-eq-WEEK_HALVES
returns-then-first_open-eq-WEEK_HALVES c =
    never c.args.self c.if-not-self.false (sym c.any_above.ensures ∙ c.if-any_above.false) c.if-self-ge-WEEK.false
    (sym c.first_open.ensures ∙ c.if-first_open-eq-WEEK_HALVES.true)

pub returns : goal.returns
returns c =
    accepted c.args.self c.if-not-self.false (sym c.any_above.ensures ∙ c.if-any_above.false) c.if-self-ge-WEEK.false
    (λ e. c.if-first_open-eq-WEEK_HALVES.false (c.first_open.ensures ∙ e))
