-- `ninotskev_decode_attempts` meets its contract: what `decode_attempts` answers, in numbers. Assumes nothing.
use Rattle.answers.specs.Numbers.{one_value, values}
use Rattle.exports.proofs.Snapshots.{crossed_as, told_values}
use Rattle.exports.proofs.ninotskev_decode_attempts.Goals as goal

pub returns : goal.returns
returns c = crossed_as values c.decode_attempts.ensures (told_values one_value c.decode_attempts.result c.of_count.ensures)
