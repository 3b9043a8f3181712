-- `ninotskev_bench_encodes` meets its contract. The loop's invariant: the writes that are left lead from the bytes to the end.
-- Assumes nothing.
use native.Mathlib.Nat.{sub-zero}
use mathlib.Core.Path.{refl, sym, ◌∙◌}
use Rattle.cursor.specs.View.{view}
use Rattle.bench.proofs.Drivers.{left_by, writes-next, writes-over, resumed-cursor, resumed_sound}
use Rattle.bench.proofs.ninotskev_bench_encodes.Goals as goal

pub loop-i-init : goal.loop-i-init
loop-i-init c = (refl, simp sub-zero)

pub encode_snapshot-requires : goal.encode_snapshot-requires
encode_snapshot-requires c =
    rw c.unwrap_or-cursor.ensures (resumed_sound _ _ _ c.new.ensures c.resume_with_columns.result c.resume_with_columns.ensures)

pub loop-i-preserved : goal.loop-i-preserved
loop-i-preserved c =
    let n = c.args.n in (
      c.encode_snapshot.auto.out ∙ c.loop-i.invariant.0,
      rw (left_by c.encode_snapshot.ensures) (sym (writes-next (view c.unwrap_or-cursor.result) c.loop-i.out c.loop-i.i n c.loop-i-test.true)) ∙ c.loop-i.invariant.1,
    )

pub shape_of-out : goal.shape_of-out
shape_of-out c = c.loop-i.invariant.0

pub returns : goal.returns
returns c =
    let a = c.args in
    rw (← resumed-cursor _ _ _ c.new.ensures c.resume_with_columns.result c.resume_with_columns.ensures, ← c.unwrap_or-cursor.ensures)
    (sym (writes-over (view c.unwrap_or-cursor.result) c.loop-i.out c.loop-i.i a.n c.loop-i-test.false) ∙ c.loop-i.invariant.1)
