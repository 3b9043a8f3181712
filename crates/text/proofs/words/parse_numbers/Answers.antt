-- `parse_numbers` meets its contract. The loop's invariant: at a word's end, the words behind it are those left to gather.
-- Assumes nothing.
use Prim.Native.Nat.{◌+◌}
use native.Mathlib.Omega.{arith}
use mathlib.Core.Path.{sym}
use Rattle.text.specs.Words.{SPACE}
use Rattle.text.proofs.Parsing.{gathering_none, gathering_more, gathered-bad, gathered-all, to-there-from, later-from, later-next, later-end}
use Rattle.text.proofs.words.parse_numbers.Goals as goal

pub loop-at-init : goal.loop-at-init
loop-at-init c =
    let a = c.args in
    let e = c.word_end-at.ensures.is in (
      omega arith,
      to-there-from SPACE a.line.now a.from c.word_end-at.result e,
      rw (later-from SPACE a.line.now a.from c.word_end-at.result e) (gathering_none _ _),
    )

pub slice_bounds-parse_number-count : goal.slice_bounds-parse_number-count
slice_bounds-parse_number-count c = c.word_end-end.ensures.behind

pub returns-in_err-n : goal.returns-in_err-n
returns-in_err-n c =
    let l = c.loop-at in
    let line = c.args.line.now in
    let w = c.word_end-end in
    let e = later-next SPACE line l.at w.result c.loop-at-test.true l.invariant.1 w.ensures.is in
    rw c.from_residual.ensures (gathered-bad _ _ _ _ _ _ (rw e at l.invariant.2) (sym c.in_err-n.ensures))

pub overflow_add-count : goal.overflow_add-count
overflow_add-count c = omega (arith, c.loop-at.invariant.0, c.loop-at-test.true)

pub loop-at-smaller : goal.loop-at-smaller
loop-at-smaller c = omega (arith, c.word_end-end.ensures.behind, c.loop-at-test.true)

pub loop-at-preserved : goal.loop-at-preserved
loop-at-preserved c =
    let l = c.loop-at in
    let line = c.args.line.now in
    let w = c.word_end-end in
    let e = later-next SPACE line l.at w.result c.loop-at-test.true l.invariant.1 w.ensures.is in (
      omega (arith, w.ensures.behind, l.invariant.0),
      to-there-from SPACE line (l.at + 1) w.result w.ensures.is,
      rw c.store.ensures
          (gathering_more _ _ _ _ _ _ (rw e at l.invariant.2) _ (sym c.in_ok-n.ensures)),
    )

pub shape_of-out : goal.shape_of-out
shape_of-out c = c.loop-at.invariant.2.size

pub returns : goal.returns
returns c =
    let l = c.loop-at in
    let a = c.args in
    gathered-all _ _ _ _ _ (later-end SPACE a.line.now l.at c.loop-at-test.false) l.invariant.2
