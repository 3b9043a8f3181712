-- `list_numbers` meets its contract. The loop's invariant: the first i numbers are written, the places behind the list are as they
-- were. Assumes nothing.
use Rattle.types.specs.Lists.{offsets_in}
use Rattle.types.proofs.Listing.{Written}
use Rattle.types.proofs.lent.list_numbers.Given as goal

abbrev pub invariant-loop-i : goal.invariant-loop-i
invariant-loop-i l = Written (offsets_in l.list) l.initial.out l.n l.i l.out
