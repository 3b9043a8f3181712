-- `place` meets its contract: behind the first n, and behind the list, there is 0. Assumes nothing.
use native.Mathlib.Omega.{arith}
use mathlib.Core.Path.{sym}
use borrow.Author.Rules.{rules}
use Rattle.answers.proofs.Places.{first-at, first_past, first-behind}
use Rattle.answers.proofs.place.Goals as goal

pub returns-then-i-list : goal.returns-then-i-list
returns-then-i-list c =
    let x = c.args in
    sym (first-at x.n x.list.now x.i (omega arith) (omega arith))

pub returns-else-i-list : goal.returns-else-i-list
returns-else-i-list c =
    let x = c.args in
    sym (first_past x.n x.list.now x.i (omega arith) (omega arith))

pub returns-else-i-n : goal.returns-else-i-n
returns-else-i-n c =
    let x = c.args in
    sym (first-behind x.n x.list.now x.i (omega arith))
