-- `ninotskev_encode_cursor` meets its contract: what `encode_cursor` answers, in numbers. Assumes nothing.
use Rattle.answers.specs.Numbers.{one_value}
use Rattle.exports.proofs.Snapshots.{crossed_as}
use Rattle.exports.proofs.ninotskev_encode_cursor.Goals as goal

pub returns : goal.returns
returns c = crossed_as one_value c.encode_cursor.ensures c.of_count.ensures
