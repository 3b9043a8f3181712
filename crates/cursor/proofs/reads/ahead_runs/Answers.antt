-- `ahead_runs` meets its contract. Assumes nothing.
use mathlib.Core.Path.{sym}
use Rattle.cursor.specs.Layout.{cursor_in}
use Rattle.cursor.proofs.Search.{runs-is}
use Rattle.cursor.proofs.Words.{whole}
use Rattle.cursor.proofs.reads.ahead_runs.Goals as goal

pub returns : goal.returns
returns c = sym (runs-is (cursor_in c.args.cursor.now) (whole c.requires))
