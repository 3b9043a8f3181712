-- `highest_named` meets its contract. The invariant: the greatest group named up to block i, and the greatest one from there on, are
-- together the greatest of all. Assumes nothing.
use Prim.Native.Nat.{◌-◌, ◌/◌, max}
use native.Mathlib.Omega.{arith}
use mathlib.Core.Path.{refl, ◌≡◌, ap, ◌∙◌}
use lib.ListN.{length}
use borrow.Author.Rules.{rules}
use Rattle.inspect.specs.Missed.{named_by}
use Rattle.inspect.proofs.Sequence.{part-is-block}
use Rattle.inspect.proofs.Named.{HighestTo, highest_begins, highest_on_lem, highest_ends}
use Rattle.inspect.proofs.missed.highest_named.Goals as goal

pub loop-i-init : goal.loop-i-init
loop-i-init c = highest_begins _ _

pub loop-i-preserved : goal.loop-i-preserved
loop-i-preserved c =
    let l = c.loop-i in
    let t = c.loop-i-test.true in
    let n = c.max-number.ensures ∙ ap (max l.number) (c.named_by.ensures ∙ ap named_by (part-is-block _ l.i)) in
    highest_on_lem _ _ _ _ _ l.invariant t n

pub returns : goal.returns
returns c =
    let l = c.loop-i in
    highest_ends _ _ _ _ _ l.invariant c.loop-i-test.false refl
