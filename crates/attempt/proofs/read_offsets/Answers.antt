-- `read_offsets` meets its contract. The loop's invariant: the first i places are filled, the others as they were.
-- Assumes nothing.
use Prim.Native.Nat.{ℕ}
use native.Mathlib.Omega.{arith}
use mathlib.Core.Path.{refl, ap, ◌∙◌}
use mathlib.Core.Bool.{Bool}
use lib.ListN.{get_or}
use Rattle.raw.specs.Bytes.{number_at}
use Rattle.attempt.specs.Snapshot.{apart, offset_at}
use Rattle.attempt.proofs.ReadColumns.{read_more, read_all}
use Rattle.attempt.proofs.read_offsets.Goals as goal

pub loop-i-preserved : goal.loop-i-preserved
loop-i-preserved c =
    let l = c.loop-i in
    let a = c.args in
    let b = a.input.now in
    let at = c.offset_at.ensures ∙ ap (λ (split : Bool). offset_at split l.i) c.version_of-version.ensures in
    let read = c.read_u64.ensures ∙ ap (λ (p : ℕ). number_at 8 p b) at in
    read_more (apart (get_or b 0 0)) a.n b (λ e. e.key) refl _ read (omega arith) l.invariant

pub returns : goal.returns
returns c =
    let a = c.args in
    read_all (apart (get_or a.input.now 0 0)) a.n a.input.now (λ e. e.key) refl (omega arith) c.loop-i.invariant
