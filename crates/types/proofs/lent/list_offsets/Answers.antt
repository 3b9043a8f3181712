-- `list_offsets` meets its contract: the loop of a listing (`Listing`), by what `offsets_fit` and `offset_at` answer.
-- Assumes nothing.
use native.Mathlib.Omega.{arith}
use Rattle.std.proofs.lemmas.List.{length-map}
use Rattle.types.specs.Lists.{numbers_of, offsets_in}
use Rattle.types.proofs.Listing.{counted-fits, one_more-of}
use Rattle.types.proofs.lent.list_offsets.Goals as goal

pub loop-i-preserved : goal.loop-i-preserved
loop-i-preserved c =
    let l = c.loop-i in
    let long = length-map c.args.out.now (λ o. o.0) in
    let fits = counted-fits (offsets_in c.args.list) (numbers_of c.args.out.now) c.in_ok-n.n (rw (long, ← c.offsets_fit.ensures, c.in_ok-n.was)) in
    one_more-of _ _ (λ o. o.0) 0 _ l.i l.out c.offset_at.result (omega arith) fits c.offset_at.ensures l.invariant
