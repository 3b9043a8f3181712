-- `leases` meets its contract. The loop's invariant: the entries from i on are left to put. Assumes nothing.
use Prim.Native.Nat.{◌+◌}
use native.Mathlib.Omega.{arith}
use mathlib.Core.Path.{◌≡◌}
use mathlib.Core.List.{◌∷◌}
use lib.ListN.{drop, get_or}
use Rattle.types.specs.Keyed.{entry}
use Rattle.tables.proofs.Slots.{through-length, through-at}
use Rattle.lease.specs.State.{nil, stored_in, leases_in, leases_of}
use Rattle.lease.specs.Parts.{Full}
use Rattle.text.proofs.Putting.{says_then, left-next, left_none}
use Rattle.shown.specs.Shown.{lease_text, marked}
use Rattle.shown.proofs.Lists.{entries_next, entries-end, entries-nothing}
use borrow.Author.Rules.{rules}
use Rattle.shown.proofs.leases.Goals as goal
use Rattle.shown.proofs.leases.Goals.{Start}

-- the table's columns
full : (s : Start) → Full s.args.table
full s =
    record {
      offsets = search rules;
      slots = search rules;
      leases = record { generations = search rules; starts = search rules; deadlines = search rules; counts = search rules; workers = search rules };
      carried-offsets = search rules;
      carried-counts = search rules;
    }

pub loop-i-preserved : goal.loop-i-preserved
loop-i-preserved c =
    let l = c.loop-i in
    let a = c.args.table in
    let f = full (goal.at.loop-i-preserved c).Start in
    let e : drop l.i (leases_of a) ≡ (entry (get_or a.offsets l.i 0) c.stored_at.result ∷ drop (l.i + 1) (leases_of a))
    = rw (c.stored_at.ensures, ← through-at nil a.slots (stored_in a) l.i (omega (arith, f.slots)))
    (entries_next a.len a.offsets (leases_in a) nil l.i (omega arith) (omega (arith, f.offsets)) (omega (arith, through-length nil a.slots (stored_in a), f.slots))) in
    left-next (marked lease_text) (leases_of a) l.i _ e l.invariant (says_then c.before-in-loop-i.ensures c.lease.ensures)

pub returns : goal.returns
returns c =
    let a = c.args.table in
    let l = c.loop-i in
    let h = full (goal.at.returns c).Start in
    let e = entries-end a.len a.offsets (leases_in a) l.i (omega (arith, h.offsets)) in
    let nothing = entries-nothing a.len a.offsets (leases_in a) (omega (arith, h.offsets)) (omega (arith, through-length nil a.slots (stored_in a), h.slots)) in
    says_then c.put.ensures
    (says_then (rw (← nothing) at c.or_none.ensures) (left_none (marked lease_text) (leases_of a) l.i e l.invariant))
