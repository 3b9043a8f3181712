-- `ninotskev_restart` meets its contract: the machine goes on with what the journal has, or stays where it is refused. Assumes nothing.
use Rattle.server.proofs.InPlace.{restart-refused, restarted-on}
use Rattle.server.proofs.Machine.{long-told}
use Rattle.server.proofs.calls.ninotskev_restart.Goals as goal
use mathlib.Core.Path.{refl}

pub restart_in_place-done-requires : goal.restart_in_place-done-requires
restart_in_place-done-requires c = long-told c.args.machine.now c.lengths.ensures.arrays

pub returns-in-Ok : goal.returns-in-Ok
returns-in-Ok c out =
    restarted-on c.args.machine.now c.requires c.args.area.now out _ _ _ c.in-Ok.ensures c.of_done.ensures _ (record { configuration = refl; phase = refl; consumer = refl }) c.free_slots.ensures

pub returns-in-Err : goal.returns-in-Err
returns-in-Err c out =
    restart-refused c.args.machine.now c.requires c.args.area.now out _ _ _ c.in-Err.ensures c.of_refusal.ensures
