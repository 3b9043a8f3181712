-- `hold_in_place` meets its contract, on every table that has the parts that it is lent.
-- Assumes nothing.
use Rattle.lease.specs.Parts.{counting}
use Rattle.lease.specs.declared.LeaseTable.{LeaseTable}
use Rattle.lease.proofs.Tokens.{not_owned, owned, one}
use Rattle.lease.proofs.in_place.hold_in_place.Goals as goal
use Rattle.lease.proofs.in_place.hold_in_place.Goals.{Start}

-- a table with the parts that the arguments are
abbrev table : Start → LeaseTable → LeaseTable
table s = counting s.args.len s.args.offsets.now s.args.slots.now s.args.generations.now s.args.deliveries.now s.args.workers.now

pub returns-in_err-at : goal.returns-in_err-at
returns-in_err-at c =
    let s = (goal.at.returns-in_err-at c).Start in
    rw c.from_residual.ensures (λ t w. rw (not_owned (table s t) w.full w.sound c.args.offset c.args.generation c.in_err-at.ensures), tt)

pub returns : goal.returns
returns c =
    let s = (goal.at.returns c).Start in
    let o = c.args.offset in
    let g = c.args.generation in
    let own = c.in_ok-at.ensures in
    (λ t w. rw (c.slot_at-slot.ensures.0, owned (table s t) w.full w.sound o g own, one (table s t) w.full w.sound o g own), own)
