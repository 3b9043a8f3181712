-- `lease_of` meets its contract. Assumes nothing.
use Prim.Native.Nat.{ℕ}
use mathlib.Core.Path.{ap, ◌∙◌}
use mathlib.Core.List.{List}
use Rattle.lease.specs.Operations.{lease_of}
use Rattle.lease.specs.Layout as lease
use Rattle.consumer_words.proofs.State.{table-part, lent-table}
use Rattle.consumer_words.proofs.reads.lease_of.Goals as goal

pub lease_of-requires : goal.lease_of-requires
lease_of-requires c = lent-table c.requires

pub returns : goal.returns
returns c =
    c.lease_of.ensures ∙ ap (λ (x : List ℕ). lease_of (lease.view x) c.args.offset.0) (table-part c.args.words.now)
