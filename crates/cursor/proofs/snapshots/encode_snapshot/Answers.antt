-- `encode_snapshot` meets its contract. Assumes nothing.
use mathlib.Core.Path.{ap, ◌∙◌}
use Rattle.raw.specs.Bytes.{write}
use Rattle.cursor.specs.Snapshot.{encode_cursor}
use Rattle.cursor.specs.View.{view}
use Rattle.cursor.specs.declared.AckCursor.{AckCursor}
use Rattle.cursor.proofs.Words.{parts_are}
use Rattle.cursor.proofs.snapshots.encode_snapshot.Goals as goal

pub returns : goal.returns
returns c =
    c.encode_columns.ensures ∙ ap (λ (g : AckCursor). write c.args.at (encode_cursor (view g)) c.args.out.now) (parts_are c.args.cursor.now)
