-- `ninotskev_progress` meets its contract: the call on its parts is one on the machine. Assumes nothing.
use borrow.Author.Rules.{rules}
use Rattle.server.proofs.InNumbers.{asked-on}
use Rattle.server.proofs.Machine.{askable-told}
use Rattle.server.proofs.calls.ninotskev_progress.Goals as goal

pub progress_in_place-done-requires : goal.progress_in_place-done-requires
progress_in_place-done-requires c =
    record { consumer = c.args.machine.now.writing.consumer; askable = askable-told c.args.machine.now c.lengths.ensures.arrays c.requires }

pub returns : goal.returns
returns c out =
    let m = c.args.machine.now in
    let g = c.args in
    asked-on m.configuration m.writing g.worker 5 g.offset g.generation g.now 0 out c.progress_in_place-done.result _ out m.phase c.requires
    (c.progress_in_place-done.ensures out m.writing.consumer (askable-told m c.lengths.ensures.arrays c.requires))
