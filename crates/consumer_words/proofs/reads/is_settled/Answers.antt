-- `is_settled` meets its contract. Assumes nothing.
use Prim.Native.Nat.{ℕ}
use mathlib.Core.Path.{ap, ◌∙◌}
use mathlib.Core.List.{List}
use Rattle.cursor.specs.Cursor.{settled}
use Rattle.cursor.specs.Layout as cursor
use Rattle.consumer_words.proofs.State.{cursor-part, lent-cursor}
use Rattle.consumer_words.proofs.reads.is_settled.Goals as goal

pub is_acked-requires : goal.is_acked-requires
is_acked-requires c = lent-cursor c.requires

pub returns : goal.returns
returns c =
    c.is_acked.ensures ∙ ap (λ (x : List ℕ). settled (cursor.view x) c.args.offset.0) (cursor-part c.args.words.now)
