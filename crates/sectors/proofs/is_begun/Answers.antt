-- `is_begun` meets its contract: it looks at the first block of each half. Assumes nothing.
use Prim.Native.Nat.{◌/◌}
use native.Mathlib.Omega.{arith}
use mathlib.Core.Path.{sym, ap, ◌∙◌}
use lib.ListN.{length}
use lib.Seq.{length-take-le}
use Rattle.journal.specs.Sound.{is_kind}
use Rattle.journal.proofs.Area.{part-is}
use Rattle.sectors.proofs.Marks.{front-block}
use Rattle.sectors.proofs.is_begun.Goals as goal

pub slice_bounds-is_head-end : goal.slice_bounds-is_head-end
slice_bounds-is_head-end c =
    sym (length-take-le 512 c.args.area.now (omega (arith, c.requires)))

pub returns-then-is_head : goal.returns-then-is_head
returns-then-is_head c = rw (front-block c.args.area.now, sym c.is_head.ensures ∙ c.if-is_head.true)

pub returns : goal.returns
returns c =
    let a = c.args.area.now in
    rw (front-block a, sym c.is_head.ensures ∙ c.if-is_head.false)
    (c.is_head-2.ensures ∙ ap (is_kind 1) (part-is a (length a / 1024)))
