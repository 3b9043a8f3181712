-- `step_to` meets its contract. Assumes nothing.
use mathlib.Core.Path.{subst}
use Rattle.cursor.specs.Plan.{StepIs}
use Rattle.cursor.specs.View.{view}
use Rattle.cursor.specs.declared.AckCursor.{AckCursor}
use Rattle.cursor.proofs.Words.{parts_are, parts_whole}
use Rattle.cursor.proofs.reads.step_to.Goals as goal

pub step_to-requires : goal.step_to-requires
step_to-requires c = parts_whole c.requires

pub returns : goal.returns
returns c =
    subst (λ (g : AckCursor). StepIs (view g) c.args.at c.args.offset c.step_to.result) (parts_are c.args.cursor.now) c.step_to.ensures
