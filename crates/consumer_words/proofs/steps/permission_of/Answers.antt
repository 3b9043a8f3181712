-- `permission_of` meets its contract: 38, then 39. Assumes nothing.
use Rattle.types.specs.Limits.{WORKERS}
use Rattle.words.specs.Columns.{column}
use Rattle.words.proofs.Columns.{column-at}
use Rattle.consumer.proofs.Permission.{unknown, no-bit, granted, not_granted}
use Rattle.consumer_words.specs.Layout.{RIGHTS}
use Rattle.consumer_words.proofs.steps.permission_of.Goals as goal

pub returns-then-worker : goal.returns-then-worker
returns-then-worker c = unknown (column RIGHTS WORKERS c.args.words.now) c.args.worker c.args.bit c.if-worker.true

pub returns-then-bit-eq0 : goal.returns-then-bit-eq0
returns-then-bit-eq0 c =
    no-bit (column RIGHTS WORKERS c.args.words.now) c.args.worker c.args.bit c.if-worker.false c.if-bit-eq0.true

pub returns-then-words-worker-eq1 : goal.returns-then-words-worker-eq1
returns-then-words-worker-eq1 c =
    granted (column RIGHTS WORKERS c.args.words.now) c.args.worker c.args.bit c.if-worker.false c.if-bit-eq0.false (rw (column-at RIGHTS WORKERS c.args.words.now c.args.worker c.if-worker.false) c.if-words-worker-eq1.true)

pub returns : goal.returns
returns c =
    not_granted (column RIGHTS WORKERS c.args.words.now) c.args.worker c.args.bit c.if-worker.false c.if-bit-eq0.false (rw (column-at RIGHTS WORKERS c.args.words.now c.args.worker c.if-worker.false) c.if-words-worker-eq1.false)
