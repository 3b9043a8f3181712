-- `export_in_place` meets its contract: in phase 0 alone, and what an export answers. Assumes nothing.
use mathlib.Core.Path.{◌≡◌, refl}
use native.Mathlib.Omega.{arith}
use borrow.Author.Rules.{rules}
use Rattle.consumer.specs.Export.{Snapshots, snapshots}
use Rattle.server.proofs.InNumbers.{idle-sound}
use Rattle.server.proofs.Snapshots.{not_exported, whole_of, export-numbers}
use Rattle.server.proofs.in_place.export_in_place.Goals as goal
use Rattle.server.proofs.in_place.export_in_place.Goals.{Else-phase-ne0, Start, Then-phase-ne0}

elsewhere : (c : Then-phase-ne0) → c.args.phase ≡ 0 → ⊥
elsewhere c e = omega arith

here : (c : Else-phase-ne0) → c.args.phase ≡ 0
here c = omega arith

abbrev lent : Start → Snapshots
lent s = snapshots s.args.cursor.now s.args.attempts.now

pub returns-then-phase-ne0 : goal.returns-then-phase-ne0
returns-then-phase-ne0 c x h =
    not_exported c.args.phase _ c.args.worker (lent (goal.at.returns-then-phase-ne0 c).Start) (elsewhere c)

pub export_in_place-answer-requires : goal.export_in_place-answer-requires
export_in_place-answer-requires c =
    let p = c.requires in
    record {
      consumer = p.consumer;
      cursor = record { starts = p.askable.sized.starts; ends = p.askable.sized.ends; sound = (idle-sound _ _ (here (goal.at.export_in_place-answer-requires c).Else-phase-ne0) p.askable.sound).cursor };
      whole = whole_of _ _ (here (goal.at.export_in_place-answer-requires c).Else-phase-ne0) p.askable;
    }

pub returns : goal.returns
returns c x h =
    export-numbers c.args.phase _ c.args.worker (lent (goal.at.returns c).Start) _ c.export_in_place-answer.result _ c.of_export.result (here (goal.at.returns c).Else-phase-ne0) refl
    (c.export_in_place-answer.ensures x (whole_of _ _ (here (goal.at.returns c).Else-phase-ne0) h)) c.of_export.ensures
