-- `ask_in_place` meets its contract: only in phase 0 is the consumer called, and then a number is no call, or what the consumer answers.
-- Assumes nothing.
use native.Mathlib.Omega.{arith}
use mathlib.Core.Path.{◌≡◌, sym, ap, ◌∙◌}
use lib.ListN.{length}
use borrow.Author.Rules.{rules}
use Rattle.server.specs.Kinds.{asking_of}
use Rattle.server.proofs.InNumbers.{not_idle, idle-sound, idle-asked, ask_none, ask-some}
use Rattle.server.proofs.InPlace.{whole, ready}
use Rattle.server.proofs.in_place.ask_in_place.Goals as goal
use Rattle.server.proofs.in_place.ask_in_place.Goals.{Else-phase-ne0, Then-phase-ne0}

elsewhere : (c : Then-phase-ne0) → c.args.phase ≡ 0 → ⊥
elsewhere c e = omega arith

here : (c : Else-phase-ne0) → c.args.phase ≡ 0
here c = omega arith

pub returns-then-phase-ne0 : goal.returns-then-phase-ne0
returns-then-phase-ne0 c x h =
    let g = c.args in
    not_idle g.phase _ g.worker g.kind g.a g.b g.c g.d g.out.now (elsewhere c)

pub returns-in_default : goal.returns-in_default
returns-in_default c x h =
    let e = here (goal.at.returns-in_default c).Else-phase-ne0 in
    let g = c.args in
    idle-asked g.phase _ g.worker g.kind g.a g.b g.c g.d g.out.now _ _ _ e
    (ask_none _ g.worker g.kind g.a g.b g.c g.d g.out.now (idle-sound g.phase _ e h.sound)
    (ap (asking_of (length g.out.now)) (sym c.in_default.is) ∙ c.ask_of-asked.ensures (length g.out.now)))

pub ask_in_place-done-requires : goal.ask_in_place-done-requires
ask_in_place-done-requires c =
    ready c.args.phase _ _ _ _ _ _ _ _ _ _ _ _ _ _ _ c.requires.consumer (here (goal.at.ask_in_place-done-requires c).Else-phase-ne0) c.requires.askable

pub returns : goal.returns
returns c x h =
    let e = here (goal.at.returns c).Else-phase-ne0 in
    let g = c.args in
    idle-asked g.phase _ g.worker g.kind g.a g.b g.c g.d g.out.now _ _ _ e
    (ask-some _ g.worker g.kind g.a g.b g.c g.d g.out.now _ _ _ c.of_ask.result
    (ap (asking_of (length g.out.now)) (sym c.in-Some.is) ∙ c.ask_of-asked.ensures (length g.out.now))
    (c.ask_in_place-done.ensures x (whole g.phase _ e h)) (c.of_ask.ensures _))
