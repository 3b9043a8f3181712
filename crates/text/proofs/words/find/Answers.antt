-- `find` meets its contract. The loop's invariant: the place that is looked for is the same from i on. Assumes nothing.
use native.Mathlib.Omega.{arith}
use mathlib.Core.Path.{◌≡◌}
use lib.ListN.{length}
use Rattle.text.proofs.Parsing.{to-here, to-next, to_end}
use Rattle.text.proofs.words.find.Goals as goal

pub returns-then-end-from : goal.returns-then-end-from
returns-then-end-from c =
    let a = c.args in
    let z = to_end a.c a.bytes.now a.from (omega arith) in
    record { is = omega (arith, z); behind = omega arith; inside = omega arith }

pub returns-then-bytes-i : goal.returns-then-bytes-i
returns-then-bytes-i c =
    let l = c.loop-i in
    let a = c.args in
    let z = to-here a.bytes.now l.i (omega arith) a.c c.if-bytes-i.true in
    record { is = omega (arith, z, l.invariant); behind = omega arith; inside = omega arith }

pub loop-i-preserved : goal.loop-i-preserved
loop-i-preserved c =
    let l = c.loop-i in
    let a = c.args in
    let n = to-next a.bytes.now l.i (omega arith) a.c c.if-bytes-i.false in
    omega (arith, n, l.invariant)

pub returns : goal.returns
returns c =
    let l = c.loop-i in
    let a = c.args in
    let z = to_end a.c a.bytes.now l.i (omega arith) in
    let e : l.i ≡ length a.bytes.now = omega arith in
    record { is = omega (arith, z, l.invariant); behind = omega arith; inside = omega arith }
