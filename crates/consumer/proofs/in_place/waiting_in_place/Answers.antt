-- `waiting_in_place` meets its contract: what is listed is the waiting list. Assumes nothing.
use Prim.Native.Nat.{ℕ}
use mathlib.Core.Path.{◌∙◌, ap}
use mathlib.Core.List.{List}
use Rattle.types.specs.Lists.{listed}
use Rattle.consumer.proofs.in_place.waiting_in_place.Goals as goal

pub returns : goal.returns
returns c x w =
    c.list_numbers.ensures ∙ ap (λ (y : List ℕ). listed y c.args.out.now) (c.waiting_list-list.ensures x w)
