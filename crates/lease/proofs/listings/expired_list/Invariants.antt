-- `expired_list` meets its contract. The loop's invariant: the offsets of expired leases before i are listed.
-- Assumes nothing.
use Rattle.lease.specs.Layout.{table_in}
use Rattle.lease.proofs.Lists.{Listing}
use Rattle.lease.proofs.listings.expired_list.Given as goal

abbrev pub invariant-loop-i : goal.invariant-loop-i
invariant-loop-i l = Listing l.len l.now (table_in l.table).offsets (table_in l.table).slots (table_in l.table).deadlines l.listed l.n l.i
