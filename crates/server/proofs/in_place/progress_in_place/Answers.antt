-- `progress_in_place` meets its contract: in phase 0 alone, and what a Progress answers. Assumes nothing.
use mathlib.Core.Path.{◌≡◌}
use native.Mathlib.Omega.{arith}
use borrow.Author.Rules.{rules}
use Rattle.server.proofs.InNumbers.{not_idle, idle-sound}
use Rattle.server.proofs.InPlace.{whole, progress-numbers}
use Rattle.server.proofs.in_place.progress_in_place.Goals as goal
use Rattle.server.proofs.in_place.progress_in_place.Goals.{Else-phase-ne0, Then-phase-ne0}

elsewhere : (c : Then-phase-ne0) → c.args.phase ≡ 0 → ⊥
elsewhere c e = omega arith

here : (c : Else-phase-ne0) → c.args.phase ≡ 0
here c = omega arith

pub returns-then-phase-ne0 : goal.returns-then-phase-ne0
returns-then-phase-ne0 c out x h =
    let g = c.args in
    not_idle g.phase _ g.worker 5 g.offset g.generation g.now 0 out (elsewhere c)

pub progress_in_place-answer-requires : goal.progress_in_place-answer-requires
progress_in_place-answer-requires c =
    let p = c.requires in
    (idle-sound _ _ (here (goal.at.progress_in_place-answer-requires c).Else-phase-ne0) p.askable.sound).table.len

pub returns : goal.returns
returns c out x h =
    let e = here (goal.at.returns c).Else-phase-ne0 in
    let g = c.args in
    progress-numbers g.phase _ g.worker g.offset g.generation g.now out _ c.progress_in_place-answer.result _ e
    (c.progress_in_place-answer.ensures x (whole g.phase _ e h)) c.of_value.ensures
