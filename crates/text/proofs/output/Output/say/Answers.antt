-- `say` meets its contract. The loop's invariant: at a mark, the parts behind it are those left to put. Assumes nothing.
use Prim.Native.Nat.{◌+◌}
use native.Mathlib.Omega.{arith}
use native.Mathlib.Nat.{zero-add}
use mathlib.Core.Path.{◌≡◌, ◌∙◌}
use lib.ListN.{length-take}
use Rattle.text.specs.Words.{length_to, later_parts}
use Rattle.text.specs.Templates.{MARK, numbered}
use Rattle.text.proofs.Parsing.{to-there-from, later-from, later-next, later-end}
use Rattle.text.proofs.Putting.{says_then, left-all, left-next, left_none}
use Rattle.text.proofs.Filling.{left_after, part-there}
use Rattle.text.proofs.output.Output.say.Goals as goal

pub slice_bounds-put-end : goal.slice_bounds-put-end
slice_bounds-put-end c =
    let f = c.find-end in
    omega (arith, length-take f.result c.args.template.now, f.ensures.inside)

pub loop-end-init : goal.loop-end-init
loop-end-init c =
    let template = c.args.template.now in
    let f = c.find-end in
    (omega arith, to-there-from MARK template 0 f.result f.ensures.is, later-from MARK template 0 f.result f.ensures.is, left-all _ _)

pub loop-end-preserved : goal.loop-end-preserved
loop-end-preserved c =
    let a = c.args in
    let l = c.loop-end in
    let f = c.find-end-in-loop-end in
    let all = later_parts MARK a.template.now in
    let e = l.invariant.2 ∙ later-next MARK a.template.now l.end f.result (omega arith) l.invariant.1 f.ensures.is in (
      omega (arith, l.invariant.0, f.ensures.behind),
      to-there-from MARK a.template.now (l.end + 1) f.result f.ensures.is,
      left_after all _ l.i _ e,
      left-next (numbered a.numbers.now) all l.i _ (part-there all _ l.i _ e) l.invariant.3
          (says_then (rw c.number_at.ensures at c.put_number.ensures) c.put-in-loop-end.ensures),
    )

pub returns : goal.returns
returns c =
    let a = c.args in
    let l = c.loop-end in
    let f = c.find-end in
    let none = l.invariant.2 ∙ later-end MARK a.template.now l.end (omega arith) in
    let first : f.result ≡ length_to MARK a.template.now = f.ensures.is ∙ zero-add _ in
    says_then (rw first at c.put.ensures) (left_none (numbered a.numbers.now) (later_parts MARK a.template.now) l.i none l.invariant.3)
