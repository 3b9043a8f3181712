-- `ninotskev_step` meets its contract: the call on its parts is one on the machine. Assumes nothing.
use borrow.Author.Rules.{rules}
use Rattle.server.proofs.calls.ninotskev_step.Goals as goal

pub step_in_place-done-requires : goal.step_in_place-done-requires
step_in_place-done-requires c = record { writing = c.args.machine.now.writing; sound = c.requires }

pub returns : goal.returns
returns c = c.step_in_place-done.ensures c.args.machine.now.configuration c.args.machine.now.writing c.requires
