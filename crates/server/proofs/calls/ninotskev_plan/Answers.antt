-- `ninotskev_plan` meets its contract: the call on its parts is one on the machine. Assumes nothing.
use borrow.Author.Rules.{rules}
use Rattle.server.proofs.Planned.{planned-on}
use Rattle.server.proofs.Machine.{askable-told}
use Rattle.server.proofs.calls.ninotskev_plan.Goals as goal

pub plan_in_place-done-requires : goal.plan_in_place-done-requires
plan_in_place-done-requires c =
    record { consumer = c.args.machine.now.writing.consumer; askable = askable-told c.args.machine.now c.lengths.ensures.arrays c.requires }

pub returns : goal.returns
returns c =
    let m = c.args.machine.now in
    let g = c.args in
    planned-on m.configuration m.writing g.worker g.offsets.now g.out.now c.plan_in_place-done.result _ c.plan_in_place-done.new.out m.phase
    (c.plan_in_place-done.ensures m.writing.consumer)
