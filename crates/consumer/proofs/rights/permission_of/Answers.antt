-- `permission_of` meets its contract: 38, then 39. Assumes nothing.
use Rattle.consumer.proofs.Permission.{unknown, no-bit, granted, not_granted}
use Rattle.consumer.proofs.rights.permission_of.Goals as goal

pub returns-then-worker : goal.returns-then-worker
returns-then-worker c = unknown c.args.rights.now c.args.worker c.args.bit c.if-worker.true

pub returns-then-bit-eq0 : goal.returns-then-bit-eq0
returns-then-bit-eq0 c =
    no-bit c.args.rights.now c.args.worker c.args.bit c.if-worker.false c.if-bit-eq0.true

pub returns-then-rights-worker-eq1 : goal.returns-then-rights-worker-eq1
returns-then-rights-worker-eq1 c =
    granted c.args.rights.now c.args.worker c.args.bit c.if-worker.false c.if-bit-eq0.false c.if-rights-worker-eq1.true

pub returns : goal.returns
returns c =
    not_granted c.args.rights.now c.args.worker c.args.bit c.if-worker.false c.if-bit-eq0.false c.if-rights-worker-eq1.false
