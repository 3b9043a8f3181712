-- `ninotskev_bench_acks_reversed` meets its contract. The loop's invariant: the batches from i on lead from the cursor to the end.
-- Assumes nothing.
use native.Mathlib.Omega.{arith}
use native.Mathlib.Nat.{sub-zero}
use mathlib.Core.Path.{sym, ap, ◌∙◌}
use Rattle.cursor.specs.Cursor.{Cursor}
use Rattle.cursor.specs.View.{view}
use Rattle.bench.proofs.Drivers.{batches_next, batches-over}
use Rattle.bench.proofs.ninotskev_bench_acks_reversed.Goals as goal

pub loop-i-init : goal.loop-i-init
loop-i-init c = (c.new-cursor.ensures.sound, rw c.new-cursor.ensures.is (simp sub-zero))

pub ack_batch-cursor-requires : goal.ack_batch-cursor-requires
ack_batch-cursor-requires c = (c.loop-i.invariant.0, omega arith)

pub loop-i-preserved : goal.loop-i-preserved
loop-i-preserved c =
    let n = c.args.n in
    (c.ack_batch-cursor.ensures.0, rw c.ack_batch-cursor.ensures.1 (sym (batches_next (view c.loop-i.cursor) c.loop-i.i n c.loop-i-test.true)) ∙ c.loop-i.invariant.1)

pub returns : goal.returns
returns c =
    ap (λ (k : Cursor). k.committed) (sym (batches-over (view c.loop-i.cursor) c.loop-i.i c.args.n c.loop-i-test.false) ∙ c.loop-i.invariant.1)
