-- `next` meets its contract: each return is a law of the two lists merged. Assumes nothing.
use native.Mathlib.Omega.{arith}
use Rattle.checkpoint.proofs.Merged.{next-carried-alone, next-leased-alone, next-leased, next-carried}
use Rattle.checkpoint.proofs.counts.Columns.next.Goals as goal

pub returns-then-self-i : goal.returns-then-self-i
returns-then-self-i g c = rw c.carried.ensures (next-carried-alone c.requires.0.listed c.args.i c.args.j (omega arith) (omega (arith, c.requires.3)))

pub returns-then-self-j : goal.returns-then-self-j
returns-then-self-j g c = rw c.leased.ensures (next-leased-alone c.requires.0.listed c.args.i c.args.j (omega arith) (omega arith))

pub returns-then-self-i-2 : goal.returns-then-self-i-2
returns-then-self-i-2 g c = rw c.leased-then-self-i-2.ensures (next-leased c.requires.0.listed c.args.i c.args.j (omega arith) (omega arith) c.if-self-i-2.true)

pub returns : goal.returns
returns g c = rw c.carried-2.ensures (next-carried c.requires.0.listed c.args.i c.args.j (omega arith) (omega arith) c.if-self-i-2.false)
