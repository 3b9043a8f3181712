-- `first_open` meets its contract. The loop's invariant: no half hour before the one that it stands at is open; beyond the first it
-- stands at a midnight. Assumes nothing.
use Prim.Native.Nat.{◌+◌, ◌%◌, ◌<◌}
use native.Mathlib.Omega.{arith}
use mathlib.Core.Path.{sym, ◌∙◌}
use Rattle.hours.proofs.Bits.{no_ones, some_ones}
use Rattle.hours.proofs.Search.{first_none, rest-within, day_closed, day_found}
use Rattle.hours.proofs.first_open.Goals as goal

pub loop-at-init : goal.loop-at-init
loop-at-init c = (omega arith, omega arith, λ k l m. absurd (omega arith))

pub overflow_add-result : goal.overflow_add-result
overflow_add-result c =
    let l = c.loop-at in
    let days = c.args.days.now in
    let m = c.remaining-rest in
    let rest : 0 < m.result = some_ones m.result c.if-rest-ne0.true in
    let few : l.at % 48 + c.from.result < 48 = rw (c.from.ensures, m.ensures) (rest-within days l.at (rw m.ensures at rest)) in
    omega arith

pub returns-then-rest-ne0 : goal.returns-then-rest-ne0
returns-then-rest-ne0 c =
    let l = c.loop-at in
    let a = c.args in
    let m = c.remaining-rest in
    let rest : 0 < m.result = some_ones m.result c.if-rest-ne0.true in
    rw (c.from.ensures, m.ensures)
    (sym (day_found a.days.now l.at a.from (omega arith) l.invariant.0 l.invariant.2 (omega arith)
    (rw m.ensures at rest)))

pub loop-at-preserved : goal.loop-at-preserved
loop-at-preserved c =
    let l = c.loop-at in
    let a = c.args in
    let m = c.remaining-rest in
    (omega arith, omega arith, day_closed a.days.now l.at a.from (omega arith) l.invariant.0 l.invariant.2 (sym m.ensures ∙ no_ones m.result c.if-rest-ne0.false))

pub returns : goal.returns
returns c =
    let l = c.loop-at in
    let a = c.args in
    sym (first_none a.days.now a.from 336 (λ k h m. l.invariant.2 k h (omega arith)))
