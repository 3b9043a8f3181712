-- `ninotskev_begin` meets its contract: the call on its parts is one on the machine. Assumes nothing.
use borrow.Author.Rules.{rules}
use Rattle.server.proofs.Machine.{lendable-told}
use Rattle.server.proofs.calls.ninotskev_begin.Goals as goal

pub begin_in_place-done-requires : goal.begin_in_place-done-requires
begin_in_place-done-requires c =
    record { consumer = c.args.machine.now.writing.consumer; lendable = lendable-told c.args.machine.now c.lengths.ensures.arrays c.lengths.ensures.payload c.requires }

pub returns : goal.returns
returns c =
    c.begin_in_place-done.ensures c.args.machine.now.configuration c.args.machine.now.writing.consumer (lendable-told c.args.machine.now c.lengths.ensures.arrays c.lengths.ensures.payload c.requires)
