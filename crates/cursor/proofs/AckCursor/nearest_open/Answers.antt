-- `AckCursor::nearest_open` meets its contract. Assumes nothing.
use mathlib.Core.Path.{ap}
use Rattle.types.specs.Identifiers.{offset}
use Rattle.cursor.proofs.AckCursor.nearest_open.Goals as goal

pub returns : goal.returns
returns c = ap offset c.nearest_in_place.ensures
