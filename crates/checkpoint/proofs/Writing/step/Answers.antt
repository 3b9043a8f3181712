-- `Writing::step` meets its contract: the parts of a record, lent to `step_in_place`, are that record. Assumes nothing.
use Rattle.checkpoint.proofs.Writing.step.Goals as goal

pub step_in_place-stepped-requires : goal.step_in_place-stepped-requires
step_in_place-stepped-requires c = record { writing = c.args.self; sound = c.requires }

pub returns : goal.returns
returns c = c.in-Ok.ensures c.args.self c.requires

pub returns-in-Err : goal.returns-in-Err
returns-in-Err c = c.in-Err.ensures c.args.self c.requires
