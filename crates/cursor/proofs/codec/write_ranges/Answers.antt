-- `write_ranges` meets its contract. The loop's invariant: the ranges that are left, written from the next place on, give
-- what all of them give at the start. Assumes nothing.
use Prim.Native.Nat.{◌+◌, ◌*◌}
use native.Mathlib.Omega.{arith}
use mathlib.Core.Path.{◌≡◌, refl, sym, ◌∙◌}
use Rattle.cursor.proofs.Writing.{put-more, put-end}
use Rattle.cursor.proofs.codec.write_ranges.Goals as goal

pub loop-i-init : goal.loop-i-init
loop-i-init c = let z : c.args.at + 16 * 0 ≡ c.args.at = omega arith in (refl, rw z)

pub loop-i-preserved : goal.loop-i-preserved
loop-i-preserved c =
    let l = c.loop-i in
    let a = c.args in (
      c.write_u64-in-loop-i.auto.buf ∙ c.write_u64.auto.buf ∙ l.invariant.0,
      put-more a.n a.starts.now a.ends.now c.requires.0 c.requires.1 l.i a.at l.out c.write_u64.new.buf c.write_u64-in-loop-i.new.buf (omega arith) (omega arith) c.write_u64.ensures c.write_u64-in-loop-i.ensures ∙ l.invariant.1,
    )

pub shape_of-out : goal.shape_of-out
shape_of-out c = c.loop-i.invariant.0

pub returns : goal.returns
returns c =
    let l = c.loop-i in
    let a = c.args in
    sym (put-end a.n a.starts.now a.ends.now c.requires.0 c.requires.1 l.i a.at l.out (omega arith)) ∙ l.invariant.1
