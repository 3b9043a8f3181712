-- `Hours::next_opening` meets its contract. Assumes nothing.
use mathlib.Core.Path.{◌∙◌}
use Rattle.hours.specs.View.{view}
use Rattle.hours.proofs.View.{opening-or-now}
use Rattle.hours.proofs.Hours.next_opening.Goals as goal

pub returns : goal.returns
returns c = c.unwrap_or.ensures ∙ opening-or-now (view c.args.self) c.args.now c.at.result c.at.ensures
