-- `is_acked` meets its contract. Assumes nothing.
use mathlib.Core.Path.{ap, ◌∙◌}
use Rattle.cursor.specs.Cursor.{settled}
use Rattle.cursor.specs.View.{view}
use Rattle.cursor.specs.declared.AckCursor.{AckCursor}
use Rattle.cursor.proofs.Words.{parts_are, parts_whole}
use Rattle.cursor.proofs.in_words.is_acked.Goals as goal

pub is_acked_in_place-requires : goal.is_acked_in_place-requires
is_acked_in_place-requires c = parts_whole c.requires

pub returns : goal.returns
returns c = c.is_acked_in_place.ensures ∙ ap (λ (g : AckCursor). settled (view g) c.args.offset.0) (parts_are c.args.cursor.now)
