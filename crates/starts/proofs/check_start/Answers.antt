-- `check_start` meets its contract: the tests of a start, in their order. Assumes nothing.
use native.Mathlib.Omega.{arith}
use borrow.Author.Rules.{rules}
use mathlib.Core.Path.{sym, ◌∙◌}
use Rattle.starts.specs.Starting.{configuration_of}
use Rattle.starts.proofs.Starting.{unlimited-refused, steps-refused, threshold-refused, goes_on, backoffs-count}
use Rattle.starts.proofs.check_start.Goals as goal

pub returns-then-lacks_opt_in : goal.returns-then-lacks_opt_in
returns-then-lacks_opt_in c = unlimited-refused (configuration_of c.args.configuration) c.args.area_len (sym c.lacks_opt_in.ensures ∙ c.if-lacks_opt_in.true)

-- the config's array has its length, so the backoffs are as many as it counts
pub returns-then-config-gt16 : goal.returns-then-config-gt16
returns-then-config-gt16 c =
    steps-refused (configuration_of c.args.configuration) c.args.area_len (sym c.lacks_opt_in.ensures ∙ c.if-lacks_opt_in.false) (omega (arith, backoffs-count c.args.configuration.settings.delivery (search rules)))

pub returns-then-config-eq0 : goal.returns-then-config-eq0
returns-then-config-eq0 c =
    threshold-refused (configuration_of c.args.configuration) c.args.area_len (sym c.lacks_opt_in.ensures ∙ c.if-lacks_opt_in.false) (omega (arith, backoffs-count c.args.configuration.settings.delivery (search rules))) c.if-config-eq0.true

pub returns : goal.returns
returns c =
    c.check_hours.ensures ∙ goes_on (configuration_of c.args.configuration) c.args.area_len (sym c.lacks_opt_in.ensures ∙ c.if-lacks_opt_in.false) (omega (arith, backoffs-count c.args.configuration.settings.delivery (search rules))) c.if-config-eq0.false
