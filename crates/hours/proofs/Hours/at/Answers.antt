-- `Hours::at` meets its contract. Assumes nothing.
use native.Mathlib.Omega.{arith}
use Rattle.hours.proofs.Search.{first-from, first-within}
use Rattle.hours.proofs.View.{from, always, at_once, later}
use Rattle.hours.proofs.Hours.at.Goals as goal

pub returns-then-not-self : goal.returns-then-not-self
returns-then-not-self c = let a = c.args in always a.self a.now c.if-not-self.true

pub returns-then-first-half : goal.returns-then-first-half
returns-then-first-half c =
    let a = c.args in
    let f = c.first_open-first in
    at_once a.self a.now c.if-not-self.false f.result f.ensures c.if-first-half.true

pub overflow_sub-first : goal.overflow_sub-first
overflow_sub-first c =
    let a = c.args in
    omega (arith, c.first_open-first.ensures, first-from a.self.days 336 (from a.self a.now))

pub overflow_mul-first : goal.overflow_mul-first
overflow_mul-first c =
    let a = c.args in
    omega (arith, c.first_open-first.ensures, first-within a.self.days 336 (from a.self a.now))

pub overflow_sub-first-2 : goal.overflow_sub-first-2
overflow_sub-first-2 c =
    let a = c.args in
    omega (arith, c.if-first-half.false, c.first_open-first.ensures, first-from a.self.days 336 (from a.self a.now))

pub returns : goal.returns
returns c =
    let a = c.args in
    let f = c.first_open-first in
    later a.self a.now c.if-not-self.false f.result f.ensures c.if-first-half.false c.saturating_add.result c.saturating_add.ensures
