-- `all_counts` meets its contract. Assumes nothing.
use Prim.Native.Nat.{ℕ}
use mathlib.Core.Path.{subst, ap, ◌∙◌}
use mathlib.Core.List.{List}
use lib.ListN.{take}
use Rattle.types.specs.Keyed.{Entry}
use Rattle.types.specs.Lists.{counts_in, ListsCounts}
use Rattle.tables.specs.Merge.{merge}
use Rattle.lease.specs.Layout.{table_in}
use Rattle.lease.proofs.Merge.{all-counted}
use Rattle.lease.proofs.InLists.{held_of}
use Rattle.lease.proofs.listings.all_counts.Goals as goal

pub returns : goal.returns
returns c =
    let leased = counts_in c.lease_counts-leased.result in
    subst (ListsCounts c.merged.result)
    (ap (λ (x : List (Entry ℕ)). take 192 (merge leased x)) (held_of c.carried_counts-carried.result c.carried_counts-carried.ensures.is)
    ∙ all-counted (table_in c.args.table.now) c.requires.table leased c.lease_counts-leased.ensures.is)
    c.merged.ensures
