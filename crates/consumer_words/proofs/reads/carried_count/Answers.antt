-- `carried_count` meets its contract. Assumes nothing.
use Prim.Native.Nat.{ℕ}
use mathlib.Core.Path.{ap, ◌∙◌}
use mathlib.Core.List.{List}
use Rattle.types.specs.Keyed.{lookup}
use Rattle.lease.specs.Layout as lease
use Rattle.consumer.specs.State.{count_or0}
use Rattle.consumer.proofs.Asked.{unwrapped}
use Rattle.consumer_words.proofs.State.{table-part, lent-table}
use Rattle.consumer_words.proofs.reads.carried_count.Goals as goal

pub carried_count-requires : goal.carried_count-requires
carried_count-requires c = lent-table c.requires

pub returns : goal.returns
returns c =
    c.unwrap_or.ensures ∙ unwrapped c.carried_count.result
    ∙ ap count_or0 (c.carried_count.ensures ∙ ap (λ (t : List ℕ). lookup c.args.offset.0 (lease.view t).carried) (table-part c.args.words.now))
