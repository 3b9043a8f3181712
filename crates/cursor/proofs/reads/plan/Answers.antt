-- `plan` meets its contract. Assumes nothing.
use mathlib.Core.Path.{ap, ◌∙◌}
use Rattle.cursor.specs.Plan.{plan}
use Rattle.cursor.specs.View.{view}
use Rattle.cursor.specs.declared.AckCursor.{AckCursor}
use Rattle.cursor.proofs.Words.{parts_are, parts_whole}
use Rattle.cursor.proofs.reads.plan.Goals as goal

pub plan_in_place-requires : goal.plan_in_place-requires
plan_in_place-requires c = parts_whole c.requires

pub returns : goal.returns
returns c =
    c.plan_in_place.ensures ∙ ap (λ (g : AckCursor). plan (view g) c.args.offsets.now c.args.out.now) (parts_are c.args.cursor.now)
