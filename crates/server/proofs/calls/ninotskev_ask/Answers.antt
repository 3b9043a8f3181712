-- `ninotskev_ask` meets its contract: the call on its parts is one on the machine. Assumes nothing.
use borrow.Author.Rules.{rules}
use Rattle.server.proofs.InNumbers.{asked-on}
use Rattle.server.proofs.Machine.{askable-told}
use Rattle.server.proofs.calls.ninotskev_ask.Goals as goal

pub ask_in_place-done-requires : goal.ask_in_place-done-requires
ask_in_place-done-requires c =
    record { consumer = c.args.machine.now.writing.consumer; askable = askable-told c.args.machine.now c.lengths.ensures.arrays c.requires }

pub returns : goal.returns
returns c =
    let m = c.args.machine.now in
    let g = c.args in
    asked-on m.configuration m.writing g.worker g.kind g.a g.b g.c g.d g.out.now c.ask_in_place-done.result.numbers _ c.ask_in_place-done.new.out m.phase c.requires
    (c.ask_in_place-done.ensures m.writing.consumer (askable-told m c.lengths.ensures.arrays c.requires))
