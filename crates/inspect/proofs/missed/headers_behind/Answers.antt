-- `headers_behind` meets its contract. The invariant: what is counted up to block i, and what is left from there, are together all.
-- Assumes nothing.
use Prim.Native.Nat.{◌-◌, ◌/◌, ◌≤◌, max}
use native.Mathlib.Omega.{arith}
use mathlib.Core.Path.{◌≡◌, sym, ap, ◌∙◌}
use lib.ListN.{length}
use borrow.Author.Rules.{rules}
use Rattle.journal.specs.Blocks.{group_of}
use Rattle.journal.specs.Sound.{has_header_kind}
use Rattle.inspect.specs.Missed.{named}
use Rattle.inspect.proofs.Sequence.{part-is-block}
use Rattle.inspect.proofs.Named.{Tally, tally_none, tally_header, tally_other, tally_end}
use Rattle.inspect.proofs.missed.headers_behind.Goals as goal
use Rattle.inspect.proofs.missed.headers_behind.Goals.{then-is_head, else-is_head}

pub loop-i-init : goal.loop-i-init
loop-i-init c = tally_none _ _ _

pub overflow_add-count : goal.overflow_add-count
overflow_add-count c = omega (arith, c.loop-i.invariant.few)

pub loop-i-preserved : goal.loop-i-preserved
loop-i-preserved c =
    let l = c.loop-i in
    let a = c.args.area.now in
    let t = c.loop-i-test.true in
    let p = part-is-block a l.i in
    let b = ap has_header_kind (sym p) ∙ sym c.is_head.ensures in
    elim c.if-is_head.branch [
      | then-is_head w ↦
          let n = w.number-is ∙ w.max-number.ensures ∙ ap (max l.number) (w.group_of.ensures ∙ ap group_of p) in
          rw (w.count-is, n) (tally_header _ _ _ _ _ _ l.invariant t (b ∙ w.if-is_head.true))
      | else-is_head w ↦
          rw (w.count-is, w.number-is) (tally_other _ _ _ _ _ _ l.invariant t (b ∙ w.if-is_head.false))
    ]

pub returns : goal.returns
returns c =
    let t = tally_end _ _ _ _ _ _ c.loop-i.invariant c.loop-i-test.false in
    rw (← c.min-end.ensures) (record { count = t.0; number = t.1 })
