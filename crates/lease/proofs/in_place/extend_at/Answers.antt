-- `extend_at` meets its contract: that of `LeaseTable::extend`, on every table that has the parts that it is lent, and with every token
-- that owns the lease at the place.
-- Assumes nothing.
-- a table with the parts that the arguments are
use Prim.Native.Nat.{ℕ}
use mathlib.Core.Path.{◌≡◌, ap, ◌∙◌}
use lib.ListN.{get_or}
use Rattle.lease.specs.Operations.{cap_from, deadline_from}
use Rattle.lease.specs.Parts.{slot_in, extending}
use Rattle.lease.specs.declared.LeaseTable.{LeaseTable}
use Rattle.lease.proofs.Tokens.{cap_reached, extended-to}
use Rattle.lease.proofs.in_place.extend_at.Goals as goal
use Rattle.lease.proofs.in_place.extend_at.Goals.{After-cap, Start}

abbrev table : Start → LeaseTable → LeaseTable
table s = extending s.args.config s.args.slots.now s.args.attempt_starts.now s.args.deadlines.now

-- the cap of the attempt
cap-is : (k : After-cap) → let s = k in k.cap.result ≡ cap_from s.args.config (get_or s.args.attempt_starts.now (slot_in s.args.slots.now s.args.at) 0)
cap-is k = k.cap.ensures ∙ ap (λ (i : ℕ). cap_from k.args.config (get_or k.args.attempt_starts.now i 0)) k.slot_at-slot.ensures.0

pub returns-then-cap-now : goal.returns-then-cap-now
returns-then-cap-now c t w o g p =
    let s = (goal.at.returns-then-cap-now c).Start in
    cap_reached (table (goal.at.returns-then-cap-now c).Start t) w.full w.sound o g p s.args.now (rw (cap-is (goal.at.returns-then-cap-now c).After-cap) at c.if-cap-now.true)

pub returns : goal.returns
returns c t w o g p =
    let s = (goal.at.returns c).Start in
    rw c.slot_at-slot.ensures.0
    (extended-to (table (goal.at.returns c).Start t) w.full w.sound o g p s.args.now c.deadline-deadline.result
    (c.deadline-deadline.ensures ∙ ap (λ (i : ℕ). deadline_from s.args.config (get_or s.args.attempt_starts.now i 0) s.args.now) c.slot_at-slot.ensures.0)
    (rw (cap-is (goal.at.returns c).After-cap) at c.if-cap-now.false))
