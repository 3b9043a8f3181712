-- `Machine::export` meets its contract: on the state alone, and what the export of it answers. Assumes nothing.
use mathlib.Core.Path.{◌≡◌}
use native.Mathlib.Omega.{arith}
use borrow.Author.Rules.{rules}
use Rattle.consumer.specs.Export.{Snapshots, snapshots}
use Rattle.machine.proofs.Transitions.{sound-idle}
use Rattle.machine.proofs.Exported.{not_exported, exported_as}
use Rattle.machine.proofs.Machine.export.Goals as goal
use Rattle.machine.proofs.Machine.export.Goals.{Else-self-ne0, Start, Then-self-ne0}

elsewhere : (c : Then-self-ne0) → c.args.self.phase ≡ 0 → ⊥
elsewhere c e = omega arith

here : (c : Else-self-ne0) → c.args.self.phase ≡ 0
here c = omega arith

abbrev lent : Start → Snapshots
lent s = snapshots s.args.cursor.now s.args.attempts.now

pub returns-then-self-ne0 : goal.returns-then-self-ne0
returns-then-self-ne0 c =
    not_exported c.args.self c.args.worker (lent (goal.at.returns-then-self-ne0 c).Start) (elsewhere c)

pub export-answer-requires : goal.export-answer-requires
export-answer-requires c =
    sound-idle c.args.self c.requires (here (goal.at.export-answer-requires c).Else-self-ne0)

pub returns : goal.returns
returns c =
    exported_as c.args.self c.args.worker (lent (goal.at.returns c).Start) (here (goal.at.returns c).Else-self-ne0) c.export-answer.result _ c.export-answer.ensures
