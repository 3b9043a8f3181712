-- `ninotskev_bench_acks_in_order` meets its contract. The loop's invariant: the acks from i on lead from the cursor to the end.
-- Assumes nothing.
use native.Mathlib.Nat.{sub-zero}
use mathlib.Core.Path.{sym, ap, ◌∙◌}
use Rattle.cursor.specs.Cursor.{Cursor}
use Rattle.cursor.specs.View.{view}
use Rattle.bench.proofs.Drivers.{left_by, acks-next, acks-over}
use Rattle.bench.proofs.ninotskev_bench_acks_in_order.Goals as goal

pub loop-i-init : goal.loop-i-init
loop-i-init c = (c.new-cursor.ensures.sound, rw c.new-cursor.ensures.is (simp sub-zero))

pub ack-requires : goal.ack-requires
ack-requires c = c.loop-i.invariant.0

pub loop-i-preserved : goal.loop-i-preserved
loop-i-preserved c =
    let n = c.args.n in
    let u = c.ack.ensures in
    (u.sound, rw (left_by u.is) (sym (acks-next (view c.loop-i.cursor) c.loop-i.i n c.loop-i-test.true)) ∙ c.loop-i.invariant.1)

pub returns : goal.returns
returns c =
    ap (λ (k : Cursor). k.committed) (sym (acks-over (view c.loop-i.cursor) c.loop-i.i c.args.n c.loop-i-test.false) ∙ c.loop-i.invariant.1)
