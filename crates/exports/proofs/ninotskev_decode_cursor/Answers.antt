-- `ninotskev_decode_cursor` meets its contract: what `decode_cursor` answers, in numbers. Assumes nothing.
use Rattle.answers.specs.Numbers.{figures_values, values}
use Rattle.exports.proofs.Snapshots.{crossed_as, told_values}
use Rattle.exports.proofs.ninotskev_decode_cursor.Goals as goal

pub returns : goal.returns
returns c = crossed_as values c.decode_cursor.ensures (told_values figures_values c.decode_cursor.result c.of_figures.ensures)
