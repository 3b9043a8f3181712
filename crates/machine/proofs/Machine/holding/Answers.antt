-- `Machine::holding` meets its contract: a machine whose consumer can be called, or one that is off beside a refusal. Assumes nothing.
use borrow.Author.Rules.{rules}
use Rattle.machine.proofs.Transitions.{made-refused, made-done}
use Rattle.machine.proofs.Machine.holding.Goals as goal

pub returns-in_default : goal.returns-in_default
returns-in_default c =
    λ right size h. made-refused right c.args.configuration size c.args.made h c.resting.result _ c.in_default.is c.resting.ensures

pub returns : goal.returns
returns c =
    λ right size h. made-done right c.args.configuration size c.args.made h c.resting-2.result _ c.in-Ok.is c.resting-2.ensures
