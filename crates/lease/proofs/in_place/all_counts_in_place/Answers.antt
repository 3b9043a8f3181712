-- `all_counts_in_place` meets its contract, on every table that has the parts that it is lent.
-- Assumes nothing.
use mathlib.Core.Path.{subst}
use Rattle.types.specs.Lists.{ListsCounts}
use Rattle.lease.specs.Parts.{listing_all}
use Rattle.lease.proofs.Merge.{all-counted}
use Rattle.lease.proofs.in_place.all_counts_in_place.Goals as goal

pub returns : goal.returns
returns c t w =
    let table = listing_all c.args.len c.args.carried_len c.args.offsets.now c.args.slots.now c.args.deliveries.now c.args.carried_offsets.now c.args.carried_counts.now t in
    subst (ListsCounts c.merged.result) (all-counted table w.sound _ (c.lease_counts_in_place-leased.ensures table w).is) c.merged.ensures
