-- `is_at_ceiling` meets its contract. Assumes nothing.
use Prim.Native.Nat.{ℕ}
use mathlib.Core.Path.{ap, ◌∙◌}
use mathlib.Core.List.{List}
use lib.Dec.{leb}
use Rattle.words.specs.Columns.{word}
use Rattle.lease.specs.Layout as lease
use Rattle.consumer_words.specs.Layout.{CEILING}
use Rattle.consumer_words.proofs.State.{table-part, lent-table}
use Rattle.consumer_words.proofs.reads.is_at_ceiling.Goals as goal

pub next_generation-next-requires : goal.next_generation-next-requires
next_generation-next-requires c = lent-table c.requires

pub returns : goal.returns
returns c =
    ap (leb (word CEILING c.args.words.now)) (c.next_generation-next.ensures ∙ ap (λ (x : List ℕ). (lease.view x).next_generation) (table-part c.args.words.now))
