-- `first_header` meets its contract. The invariant: the first header of all is the first of those that are left. Assumes nothing.
use Prim.Native.Nat.{◌-◌, ◌/◌, ◌≤◌}
use native.Mathlib.Omega.{arith}
use mathlib.Core.Path.{◌≡◌, refl, sym, ap, ◌∙◌}
use lib.ListN.{length}
use borrow.Author.Rules.{rules}
use Rattle.journal.specs.Sound.{has_header_kind}
use Rattle.inspect.specs.Missed.{first_header}
use Rattle.inspect.proofs.Sequence.{part-is-block}
use Rattle.inspect.proofs.Named.{header-here, header-later, header_none}
use Rattle.inspect.proofs.missed.first_header.Goals as goal

pub returns-then-is_head : goal.returns-then-is_head
returns-then-is_head c =
    let l = c.loop-i in
    let h = ap has_header_kind (sym (part-is-block _ l.i)) ∙ sym c.is_head.ensures ∙ c.if-is_head.true in
    rw (← c.min-end.ensures) (sym (header-here _ _ _ c.loop-i-test.true h) ∙ l.invariant)

pub loop-i-preserved : goal.loop-i-preserved
loop-i-preserved c =
    let l = c.loop-i in
    let h = ap has_header_kind (sym (part-is-block _ l.i)) ∙ sym c.is_head.ensures ∙ c.if-is_head.false in
    header-later _ _ _ c.loop-i-test.true h ∙ l.invariant

pub returns : goal.returns
returns c =
    rw (← c.min-end.ensures) (sym (header_none _ _ _ c.loop-i-test.false) ∙ c.loop-i.invariant)
