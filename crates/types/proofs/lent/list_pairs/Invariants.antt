-- `list_pairs` meets its contract. The loop's invariant: the first i pairs are written, the places behind the list are as they
-- were. Assumes nothing.
use Rattle.types.specs.Lists.{entries_of, counts_in}
use Rattle.types.proofs.Listing.{Written}
use Rattle.types.proofs.lent.list_pairs.Given as goal

abbrev pub invariant-loop-i : goal.invariant-loop-i
invariant-loop-i l = Written (counts_in l.counts) (entries_of l.initial.out) l.n l.i (entries_of l.out)
