-- `is_exhausted` meets its contract. Assumes nothing.
use Prim.Native.Nat.{ℕ}
use mathlib.Core.Path.{ap, ◌∙◌}
use mathlib.Core.List.{List}
use lib.Dec.{eqb}
use Rattle.types.specs.Limits.{MAX}
use Rattle.lease.specs.Layout as lease
use Rattle.consumer_words.proofs.State.{table-part, lent-table}
use Rattle.consumer_words.proofs.reads.is_exhausted.Goals as goal

pub is_exhausted-requires : goal.is_exhausted-requires
is_exhausted-requires c = lent-table c.requires

pub returns : goal.returns
returns c =
    c.is_exhausted.ensures ∙ ap (λ (x : List ℕ). eqb (lease.view x).next_generation MAX) (table-part c.args.words.now)
