-- `parse_number` meets its contract. The loop's invariant: the word's number is that of the digits from the next one on behind n. Assumes nothing.
use Prim.Native.Nat.{◌+◌}
use native.Mathlib.Omega.{arith}
use mathlib.Core.Path.{sym, ◌∙◌}
use lib.ListN.{drop, get_or, drop_of_length-le}
use Rattle.std.proofs.lemmas.Bool.Decides.{nat_tests}
use Rattle.text.proofs.Parsing.{drop-next, number_more, number_none, number-all, number-begun}
use Rattle.text.proofs.words.parse_number.Goals as goal

pub loop-c-init : goal.loop-c-init
loop-c-init c = (omega arith, number-begun c.args.word.now (grind (arith, nat_tests)))

pub returns-in_err-n : goal.returns-in_err-n
returns-in_err-n c =
    let l = c.loop-c in
    let w = c.args.word.now in
    let e = sym c.in_err-n.ensures in
    rw c.from_residual.ensures
    (sym (l.invariant.1 ∙ rw (drop-next w l.c-index (omega arith)) (number_none l.n (get_or w l.c-index 0) (drop (l.c-index + 1) w) e)))

pub loop-c-preserved : goal.loop-c-preserved
loop-c-preserved c =
    let l = c.loop-c in
    let w = c.args.word.now in
    let e = sym c.in_ok-n.ensures in
    let m = number_more l.n (get_or w l.c-index 0) (drop (l.c-index + 1) w) _ e in
    (m.0, l.invariant.1 ∙ rw (drop-next w l.c-index (omega arith)) m.1)

pub returns : goal.returns
returns c =
    let l = c.loop-c in
    let w = c.args.word.now in
    sym (l.invariant.1 ∙ rw (drop_of_length-le w {i = l.c-index} (omega arith)) (number-all l.n l.invariant.0))
