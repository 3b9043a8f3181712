-- `refill` meets its contract. Assumes nothing.
use Prim.Native.Nat.{◌-◌, ◌≤◌}
use native.Mathlib.Omega.{arith}
use lib.ListN.{length}
use borrow.Rule.Slice.PartMut.{take_put}
use Rattle.text.proofs.Taking.{refilled}
use Rattle.text.proofs.lines.refill.Goals as goal

pub returns : goal.returns
returns g c =
    let front = c.to_front in
    let inside : c.args.input.to - c.args.input.from ≤ length front.new.buf = omega arith in
    refilled c.args.buf.now c.args.input c.requires _ c.read_some-more.result (omega arith) (rw take_put front.ensures)
