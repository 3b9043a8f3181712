-- `parse_bytes` meets its contract. The loop's invariant: `count` bytes are in the list, and the digits from `at` on are left. Assumes
-- nothing.
use native.Mathlib.Omega.{arith}
use mathlib.Core.Path.{sym, ◌∙◌}
use Rattle.text.proofs.Hex.{decoding_none, plainly, decoding_more, decoded-bad, decoded_odd, decoded-all, decoded_dash, decoded-empty}
use Rattle.text.proofs.words.parse_bytes.Goals as goal

pub returns-then-same : goal.returns-then-same
returns-then-same c =
    let k = c.before in
    let a = k.args in
    decoded_dash a.word.now a.out.now (sym k.same.ensures ∙ c.if-same.true)

pub returns-then-len-eq0 : goal.returns-then-len-eq0
returns-then-len-eq0 c =
    let a = c.args in
    decoded-empty a.word.now a.out.now c.if-len-eq0.true

pub loop-at-init : goal.loop-at-init
loop-at-init c =
    let k = c.before.before in
    let a = k.args in
    (omega arith, decoding_none a.word.now a.out.now, plainly a.word.now a.out.now (sym k.same.ensures ∙ c.if-same.false) (omega arith))

pub shape_of-out-then-next-len : goal.shape_of-out-then-next-len
shape_of-out-then-next-len c = c.loop-at.invariant.1.size

pub returns-then-next-len : goal.returns-then-next-len
returns-then-next-len c =
    let l = c.loop-at in
    let a = c.args in
    decoded_odd a.word.now a.out.now _ _ _ l.invariant.1 l.invariant.2 c.if-next-len.true

pub returns-in_err-byte : goal.returns-in_err-byte
returns-in_err-byte c =
    let l = c.loop-at in
    let a = c.args in
    rw c.from_residual.ensures (decoded-bad a.word.now a.out.now _ _ _ l.invariant.1 (omega arith) l.invariant.2 (sym c.in_err-byte.ensures))

pub overflow_add-count : goal.overflow_add-count
overflow_add-count c = let l = c.loop-at in omega (arith, l.invariant.0, l.invariant.1.counted)

pub loop-at-preserved : goal.loop-at-preserved
loop-at-preserved c =
    let l = c.loop-at in
    let a = c.args in (
      omega arith,
      rw c.store.ensures
          (decoding_more a.word.now a.out.now _ _ _ l.invariant.1 (omega arith) _ (sym c.in_ok-byte.ensures)),
      l.invariant.2,
    )

pub shape_of-out : goal.shape_of-out
shape_of-out c = c.loop-at.invariant.1.size

pub returns : goal.returns
returns c =
    let l = c.loop-at in
    let a = c.args in
    decoded-all a.word.now a.out.now _ _ _ l.invariant.1 l.invariant.2 (omega (arith, l.invariant.0))
