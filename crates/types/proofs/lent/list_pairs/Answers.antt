-- `list_pairs` meets its contract: the loop of a listing (`Listing`), by what `counts_fit` and `pair_at` answer.
-- Assumes nothing.
use native.Mathlib.Omega.{arith}
use Rattle.std.proofs.lemmas.List.{length-map}
use Rattle.types.specs.Keyed.{entry}
use Rattle.types.specs.Lists.{entry_of, entries_of, counts_in}
use Rattle.types.proofs.Listing.{counted-fits, one_more-of}
use Rattle.types.proofs.lent.list_pairs.Goals as goal

pub loop-i-preserved : goal.loop-i-preserved
loop-i-preserved c =
    let l = c.loop-i in
    let long = length-map c.args.out.now entry_of in
    let fits = counted-fits (counts_in c.args.counts) (entries_of c.args.out.now) c.in_ok-n.n (rw (long, ← c.counts_fit.ensures, c.in_ok-n.was)) in
    one_more-of _ _ entry_of (entry 0 0) _ l.i l.out c.pair_at.result (omega arith) fits c.pair_at.ensures l.invariant
