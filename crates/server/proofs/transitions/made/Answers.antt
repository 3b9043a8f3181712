-- `made` meets its contract: the machine that was made, or the one that was handed in beside a refusal. Assumes nothing.
use borrow.Author.Rules.{rules}
use Rattle.server.proofs.InNumbers.{made-refused, made-done}
use Rattle.server.proofs.transitions.made.Goals as goal

pub returns-in_default : goal.returns-in_default
returns-in_default c =
    let x = c.args in
    λ right s size h. made-refused right x.before s size x.made c.of_done-numbers.result h c.of_done-numbers.ensures _ c.in_default.is

pub returns : goal.returns
returns c =
    let x = c.args in
    λ right s size h. made-done right x.before s size x.made c.of_done-numbers.result h c.of_done-numbers.ensures _ c.in-Ok.is
