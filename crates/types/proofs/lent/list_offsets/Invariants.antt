-- `list_offsets` meets its contract. The loop's invariant: the first i offsets are written, the places behind the list are as they
-- were. Assumes nothing.
use Rattle.types.specs.Lists.{numbers_of, offsets_in}
use Rattle.types.proofs.Listing.{Written}
use Rattle.types.proofs.lent.list_offsets.Given as goal

abbrev pub invariant-loop-i : goal.invariant-loop-i
invariant-loop-i l = Written (offsets_in l.list) (numbers_of l.initial.out) l.n l.i (numbers_of l.out)
