-- `started_with` meets its contract: a refusal beside a fresh consumer, or the consumer of the parts that were read. Assumes nothing.
use Rattle.starts.proofs.Restarting.{refused-value, resumed-value}
use Rattle.starts.proofs.started_with.Goals as goal

pub returns : goal.returns
returns c =
    λ right before h.
    resumed-value right c.args.configuration c.args.area_len c.args.done before _ h _ c.in-Ok.is c.resumed.result c.resumed.ensures.0 c.resumed.ensures.1

pub returns-in-Err : goal.returns-in-Err
returns-in-Err c =
    λ right before h.
    refused-value right c.args.configuration c.args.area_len c.args.done before _ h _ c.in-Err.is c.fresh.result c.fresh.ensures
