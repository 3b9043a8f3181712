-- `call` meets its contract: each kind of call goes to its own function. Assumes nothing.
use lib.ListN.{length}
use borrow.Author.Rules.{rules}
use Rattle.machine.proofs.Transitions.{called_as}
use Rattle.machine.proofs.call.Goals as goal

pub returns-in-Ask : goal.returns-in-Ask
returns-in-Ask c =
    called_as (length c.args.out.now) c.in-Ask.is (c.on_state.ensures c.args.area.now)

pub returns-in-Begin : goal.returns-in-Begin
returns-in-Begin c =
    called_as (length c.args.out.now) c.in-Begin.is (c.begin.ensures c.args.area.now c.args.out.now)

pub returns-in-Step : goal.returns-in-Step
returns-in-Step c =
    called_as (length c.args.out.now) c.in-Step.is (c.step.ensures c.args.out.now)

pub returns-in-Restart : goal.returns-in-Restart
returns-in-Restart c =
    called_as (length c.args.out.now) c.in-Restart.is (c.restart.ensures c.args.out.now)
