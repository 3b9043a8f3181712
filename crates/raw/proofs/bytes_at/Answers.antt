-- `bytes_at` meets its contract. Assumes nothing.
use native.Mathlib.Omega.{arith}
use lib.ListN.{length-replicate}
use borrow.Author.Rules.{rules}
use Rattle.raw.proofs.Past.{padded, one-more}
use Rattle.raw.proofs.bytes_at.Goals as goal

pub loop-i-init : goal.loop-i-init
loop-i-init g c = (length-replicate g.row.N 0, λ k h. absurd (omega arith))

pub loop-i-preserved : goal.loop-i-preserved
loop-i-preserved g c =
    let l = c.loop-i in
    (search rules, one-more l.bytes _ l.i c.byte_at.result (omega (arith, l.invariant.0)) c.byte_at.ensures l.invariant.1)

pub returns : goal.returns
returns g c =
    let a = c.args in
    let l = c.loop-i in
    padded a.pos a.buf.now g.row.N c.min.result l.bytes c.min.ensures l.invariant.0 (λ k h. l.invariant.1 k (omega arith))
