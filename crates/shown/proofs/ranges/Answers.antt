-- `ranges` meets its contract. The loop's invariant: the entries from i on are left to put. Assumes nothing.
use native.Mathlib.Omega.{arith}
use mathlib.Core.Path.{◌≡◌}
use lib.ListN.{length}
use Rattle.cursor.specs.Ranges.{range}
use Rattle.shown.specs.Shown.{range_text, marked, ahead_of}
use Rattle.shown.proofs.Lists.{zipped-next, zipped-end, zipped-nothing}
use Rattle.text.proofs.Putting.{says_then, left-next, left_none}
use borrow.Author.Rules.{rules}
use Rattle.shown.proofs.ranges.Goals as goal
use Rattle.shown.proofs.ranges.Goals.{Start}

full : (c : Start) → (length c.args.cursor.starts ≡ 128) × (length c.args.cursor.ends ≡ 128)
full c = (search rules, search rules)

pub loop-i-preserved : goal.loop-i-preserved
loop-i-preserved c =
    let a = c.args.cursor in
    let l = c.loop-i in
    let h = full (goal.at.loop-i-preserved c).Start in
    let e = zipped-next range 0 0 l.i a.runs a.starts a.ends (omega arith) (omega (arith, h.0)) (omega (arith, h.1)) in
    left-next (marked range_text) (ahead_of a) l.i _ e l.invariant (says_then c.before-in-loop-i.ensures (says_then c.put_number.ensures c.with.ensures))

pub returns : goal.returns
returns c =
    let a = c.args.cursor in
    let l = c.loop-i in
    let h = full (goal.at.returns c).Start in
    let e = zipped-end range l.i a.runs a.starts a.ends (omega (arith, h.0)) in
    let nothing = zipped-nothing range a.runs a.starts a.ends (omega (arith, h.0)) (omega (arith, h.1)) in
    says_then c.put.ensures
    (says_then (rw (← nothing) at c.or_none.ensures) (left_none (marked range_text) (ahead_of a) l.i e l.invariant))
