-- `expired_in_place` meets its contract, on every table that has the parts that it is lent. The loop's invariant: the offsets of expired
-- leases before i are listed.
-- Assumes nothing.
use Rattle.lease.proofs.Lists.{Listing}
use Rattle.lease.proofs.in_place.expired_in_place.Given as goal

abbrev pub invariant-loop-i : goal.invariant-loop-i
invariant-loop-i l = Listing l.len l.now l.offsets l.slots l.deadlines l.listed l.n l.i
