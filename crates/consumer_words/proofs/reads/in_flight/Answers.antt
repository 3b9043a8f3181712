-- `in_flight` meets its contract. Assumes nothing.
use Prim.Native.Nat.{ℕ}
use mathlib.Core.Path.{ap, ◌∙◌}
use mathlib.Core.List.{List}
use Rattle.lease.specs.Rest.{in_flight}
use Rattle.lease.specs.Layout as lease
use Rattle.consumer_words.proofs.State.{table-part, lent-table}
use Rattle.consumer_words.proofs.reads.in_flight.Goals as goal

pub in_flight-requires : goal.in_flight-requires
in_flight-requires c = lent-table c.requires

pub returns : goal.returns
returns c = c.in_flight.ensures ∙ ap (λ (x : List ℕ). in_flight (lease.view x)) (table-part c.args.words.now)
