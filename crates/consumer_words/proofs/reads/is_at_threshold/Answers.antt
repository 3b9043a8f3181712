-- `is_at_threshold` meets its contract. Assumes nothing.
use Prim.Native.Nat.{ℕ}
use mathlib.Core.Path.{ap, ◌∙◌}
use mathlib.Core.List.{List}
use lib.Dec.{leb}
use Rattle.words.specs.Columns.{word}
use Rattle.lease.specs.Layout as lease
use Rattle.consumer_words.specs.Layout.{THRESHOLD}
use Rattle.consumer_words.proofs.State.{table-part, lent-table}
use Rattle.consumer_words.proofs.reads.is_at_threshold.Goals as goal

pub redeliveries_since_flush-count-requires : goal.redeliveries_since_flush-count-requires
redeliveries_since_flush-count-requires c = lent-table c.requires

pub returns : goal.returns
returns c =
    ap (leb (word THRESHOLD c.args.words.now))
    (c.from.ensures ∙ c.redeliveries_since_flush-count.ensures ∙ ap (λ (x : List ℕ). (lease.view x).redeliveries) (table-part c.args.words.now))
