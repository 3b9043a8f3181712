-- `nearest_open` meets its contract. Assumes nothing.
use mathlib.Core.Path.{ap, ◌∙◌}
use Rattle.types.specs.Identifiers.{offset}
use Rattle.cursor.specs.Unsettled.{nearest_open}
use Rattle.cursor.specs.View.{view}
use Rattle.cursor.specs.declared.AckCursor.{AckCursor}
use Rattle.cursor.proofs.Words.{parts_are, parts_whole}
use Rattle.cursor.proofs.reads.nearest_open.Goals as goal

pub nearest_in_place-requires : goal.nearest_in_place-requires
nearest_in_place-requires c = parts_whole c.requires

pub returns : goal.returns
returns c = ap offset (c.nearest_in_place.ensures ∙ ap (λ (g : AckCursor). nearest_open (view g) c.args.from.0) (parts_are c.args.cursor.now))
