-- `open_between` meets its contract. Assumes nothing.
use mathlib.Core.Path.{ap, ◌∙◌}
use Rattle.cursor.specs.Unsettled.{open_numbers}
use Rattle.cursor.specs.View.{view}
use Rattle.cursor.specs.declared.AckCursor.{AckCursor}
use Rattle.cursor.proofs.Words.{parts_are, parts_whole}
use Rattle.cursor.proofs.reads.open_between.Goals as goal

pub open_between_in_place-requires : goal.open_between_in_place-requires
open_between_in_place-requires c = parts_whole c.requires

pub returns : goal.returns
returns c =
    c.open_between_in_place.ensures ∙ ap (λ (g : AckCursor). open_numbers (view g) c.args.a c.args.b c.args.out.now) (parts_are c.args.cursor.now)
