-- `ninotskev_export` meets its contract: the call on its parts is one on the machine. Assumes nothing.
use borrow.Author.Rules.{rules}
use Rattle.consumer.specs.Export.{snapshots}
use Rattle.server.proofs.Snapshots.{exported-on}
use Rattle.server.proofs.Machine.{askable-told}
use Rattle.server.proofs.calls.ninotskev_export.Goals as goal

pub export_in_place-done-requires : goal.export_in_place-done-requires
export_in_place-done-requires c =
    record { consumer = c.args.machine.now.writing.consumer; askable = askable-told c.args.machine.now c.lengths.ensures.arrays c.requires }

pub returns : goal.returns
returns c =
    let m = c.args.machine.now in
    let g = c.args in
    let r = c.export_in_place-done in
    exported-on m.configuration m.writing g.worker (snapshots g.cursor.now g.attempts.now) r.result _ (snapshots r.new.cursor r.new.attempts) m.phase
    (r.ensures m.writing.consumer (askable-told m c.lengths.ensures.arrays c.requires))
