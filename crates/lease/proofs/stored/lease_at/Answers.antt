-- `lease_at` meets its contract. Assumes nothing.
use native.Mathlib.Omega.{arith}
use Rattle.lease.proofs.Stores.{lease-stored, count_narrow, worker_narrow}
use Rattle.lease.proofs.stored.lease_at.Goals as goal

pub overflow_cast-result : goal.overflow_cast-result
overflow_cast-result c =
    omega (arith, count_narrow c.args.table.now c.requires.0.fits c.slot_at-slot.result c.slot_at-slot.ensures.1)

pub overflow_cast-result-2 : goal.overflow_cast-result-2
overflow_cast-result-2 c =
    omega (arith, worker_narrow c.args.table.now c.requires.0.fits c.slot_at-slot.result c.slot_at-slot.ensures.1)

pub returns : goal.returns
returns c =
    lease-stored c.args.table.now c.args.at c.slot_at-slot.result c.slot_at-slot.ensures.0 c.slot_at-slot.ensures.1
