-- `any_above` meets its contract. Assumes nothing.
use mathlib.Core.Path.{◌∙◌}
use lib.Dec.{leb}
use Rattle.std.proofs.Common.{rules, tests}
use Rattle.std.proofs.lemmas.Iterator.{YieldsList-from_slice}
use Rattle.std.proofs.lemmas.Iterator.Search.{any_from_yields_List}
use Rattle.hours.proofs.Above.{tested}
use Rattle.hours.proofs.any_above.Goals as goal

pub returns : goal.returns
returns c =
    any_from_yields_List (leb 281474976710656) _ _ c.any.result c.any.ensures.ran (YieldsList-from_slice c.args.days.now cc) (λ x b q k. search (rules, tests))
    ∙ tested c.args.days.now (search rules)
