-- `LeaseTable::defer_redelivery` meets its contract.
-- Assumes nothing.
use Rattle.lease.specs.State.{view}
use Rattle.lease.specs.Parts.{Full}
use Rattle.lease.proofs.Slots.{free, lease-at}
use Rattle.lease.proofs.Questions.{none_expired, still-running, not_deferred, deferred}
use Rattle.lease.proofs.Whole.{filled}
use Rattle.lease.proofs.LeaseTable.defer_redelivery.Goals as goal
use Rattle.lease.proofs.LeaseTable.defer_redelivery.Goals.{Start}

full : (s : Start) → Full s.args.self
full s = filled s.well_formed.0

pub returns-in_default : goal.returns-in_default
returns-in_default c =
    not_deferred c.args.self (full (goal.at.returns-in_default c).Start) c.requires c.args.offset.0 c.args.now c.args.delay_nanos (none_expired (view c.args.self) c.args.offset.0 c.args.now (free c.args.self (full (goal.at.returns-in_default c).Start) c.requires c.find-place.ensures c.in_default.is).is)

pub returns-then-now-deadlines : goal.returns-then-now-deadlines
returns-then-now-deadlines c =
    let s = (goal.at.returns-then-now-deadlines c).Start in
    not_deferred s.args.self (full (goal.at.returns-then-now-deadlines c).Start) s.requires s.args.offset.0 s.args.now s.args.delay_nanos (still-running (view s.args.self) s.args.offset.0 s.args.now _ (lease-at s.args.self (full (goal.at.returns-then-now-deadlines c).Start) s.requires s.args.offset.0 c.find-place.ensures c.in-Found.is) (rw c.slot_at-slot.ensures.0 at c.if-now-deadlines.true))

pub returns : goal.returns
returns c =
    let s = (goal.at.returns c).Start in
    rw c.slot_at-slot.ensures.0 (deferred s.args.self (full (goal.at.returns c).Start) s.requires s.args.offset.0 s.args.now s.args.delay_nanos c.find-place.ensures c.in-Found.is (rw c.slot_at-slot.ensures.0 at c.if-now-deadlines.false) c.saturating_add.result c.saturating_add.ensures)
