-- `ninotskev_encode_attempts` meets its contract: what the encoder answers, in numbers. Assumes nothing.
use Rattle.answers.specs.Numbers.{one_value}
use Rattle.exports.proofs.Snapshots.{crossed_as}
use Rattle.exports.proofs.ninotskev_encode_attempts.Goals as goal

pub returns : goal.returns
returns c = crossed_as one_value c.encode_columns.ensures c.of_count.ensures
