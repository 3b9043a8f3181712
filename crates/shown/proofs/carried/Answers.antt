-- `carried` meets its contract. The loop's invariant: the entries from i on are left to put. Assumes nothing.
use native.Mathlib.Omega.{arith}
use mathlib.Core.Path.{◌≡◌}
use lib.ListN.{length}
use Rattle.lease.specs.State.{carried_of}
use Rattle.text.proofs.Putting.{says_then, left-next, left_none}
use Rattle.shown.specs.Shown.{count_text, marked}
use Rattle.shown.proofs.Lists.{entries_next, entries-end, entries-nothing}
use borrow.Author.Rules.{rules}
use Rattle.shown.proofs.carried.Goals as goal
use Rattle.shown.proofs.carried.Goals.{Start}

full : (c : Start) → (length c.args.table.carried_offsets ≡ 128) × (length c.args.table.carried_counts ≡ 128)
full c = (search rules, search rules)

pub loop-i-preserved : goal.loop-i-preserved
loop-i-preserved c =
    let a = c.args.table in
    let l = c.loop-i in
    let h = full (goal.at.loop-i-preserved c).Start in
    let e = entries_next a.carried_len a.carried_offsets a.carried_counts 0 l.i (omega arith) (omega (arith, h.0)) (omega (arith, h.1)) in
    left-next (marked count_text) (carried_of a) l.i _ e l.invariant (says_then c.before-in-loop-i.ensures (says_then c.put_number.ensures (rw c.from.ensures at c.with.ensures)))

pub returns : goal.returns
returns c =
    let a = c.args.table in
    let l = c.loop-i in
    let h = full (goal.at.returns c).Start in
    let e = entries-end a.carried_len a.carried_offsets a.carried_counts l.i (omega (arith, h.0)) in
    let nothing = entries-nothing a.carried_len a.carried_offsets a.carried_counts (omega (arith, h.0)) (omega (arith, h.1)) in
    says_then c.put.ensures
    (says_then (rw (← nothing) at c.or_none.ensures) (left_none (marked count_text) (carried_of a) l.i e l.invariant))
