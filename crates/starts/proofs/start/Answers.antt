-- `start` meets its contract: a fresh consumer, and what the tests of a start say. Assumes nothing.
use mathlib.Core.Path.{◌≡◌}
use lib.ListN.{length}
use borrow.Author.Rules.{rules}
use Rattle.consumer.specs.Valid.{Fits}
use Rattle.starts.specs.Starting.{configuration_of}
use Rattle.starts.proofs.Starting.{started-fresh}
use Rattle.starts.proofs.start.Goals as goal

pub returns : goal.returns
returns c =
    -- what the types of the configuration say
    let full : length c.args.configuration.settings.delivery.backoff_nanos ≡ 16 = search rules in
    let fits : Fits (configuration_of c.args.configuration).settings = record { limit-fits = search rules; threshold-fits = search rules } in
    started-fresh c.args.configuration c.args.area_len full fits _ _ c.check_start-answer.ensures c.fresh-consumer.ensures
