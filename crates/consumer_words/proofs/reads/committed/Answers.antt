-- `committed` meets its contract. Assumes nothing.
use native.Mathlib.Omega.{arith}
use mathlib.Core.Path.{sym}
use Rattle.words.proofs.Columns.{column-at}
use Rattle.cursor.specs.Layout as cursor
use Rattle.consumer_words.specs.Layout.{CURSOR}
use Rattle.consumer_words.proofs.reads.committed.Goals as goal

pub returns : goal.returns
returns c = sym (column-at CURSOR cursor.WORDS c.args.words.now cursor.COMMITTED (omega arith))
