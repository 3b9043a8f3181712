-- `begin_in_place` meets its contract: in phase 0 alone, and what a begin answers. Assumes nothing.
use mathlib.Core.Path.{◌≡◌}
use mathlib.Core.Bool.{true}
use native.Mathlib.Omega.{arith}
use borrow.Author.Rules.{rules}
use Rattle.machine.specs.Calls.{u64}
use Rattle.machine.proofs.Fits.{number_fits}
use Rattle.server.proofs.InPlace.{lent_of, begin-declined, begun-done, begun-refused}
use Rattle.server.proofs.in_place.begin_in_place.Goals as goal
use Rattle.server.proofs.in_place.begin_in_place.Goals.{Else-phase-ne0, Start, Then-phase-ne0}

elsewhere : (c : Then-phase-ne0) → c.args.phase ≡ 0 → ⊥
elsewhere c e = omega arith

here : (c : Else-phase-ne0) → c.args.phase ≡ 0
here c = omega arith

-- what the type of the worker's number says
fit : (c : Start) → u64 c.args.worker ≡ true
fit c = number_fits c.args.worker c.ranges.worker.fits

pub returns-then-phase-ne0 : goal.returns-then-phase-ne0
returns-then-phase-ne0 c s x h area out = begin-declined s _ _ h.sound _ (fit (goal.at.returns-then-phase-ne0 c).Start) area out (elsewhere c)

pub begin_in_place-begun-requires : goal.begin_in_place-begun-requires
begin_in_place-begun-requires c =
    let p = c.requires in
    record { consumer = p.consumer; lent = lent_of _ _ (here (goal.at.begin_in_place-begun-requires c).Else-phase-ne0) p.lendable; payload = p.lendable.payload }

pub returns-in-Ok : goal.returns-in-Ok
returns-in-Ok c s x h area out =
    let e = here (goal.at.returns-in-Ok c).Else-phase-ne0 in
    let g = c.args in
    begun-done s _ _ h.sound _ (fit (goal.at.returns-in-Ok c).Start) area out e _ _ _ (c.in-Ok.ensures x (lent_of _ _ e h) g.written g.cursor_len g.attempt_len) c.of_count.ensures

pub returns-in-Err : goal.returns-in-Err
returns-in-Err c s x h area out =
    let e = here (goal.at.returns-in-Err c).Else-phase-ne0 in
    let g = c.args in
    begun-refused s _ _ h.sound _ (fit (goal.at.returns-in-Err c).Start) area out e _ _ _ (c.in-Err.ensures x (lent_of _ _ e h) g.written g.cursor_len g.attempt_len) c.of_refusal.ensures
