-- `in_full` meets its contract: the lease's values, or else the carried count. Assumes nothing.
use Prim.Native.Nat.{ℕ}
use mathlib.Core.Path.{refl, ap, ◌∙◌}
use Rattle.types.specs.Keyed.{lookup}
use Rattle.consumer.specs.View.{view_in}
use Rattle.consumer.specs.declared.views.View.TheVariants as views
use Rattle.consumer.proofs.Standing.{is-leased, is_unleased}
use Rattle.consumer_words.specs.Layout.{view}
use Rattle.consumer_words.proofs.reads.in_full.Goals as goal

pub returns-in-Some : goal.returns-in-Some
returns-in-Some c =
    is-leased c.args.found _ c.args.now c.in-Some.is c.standing_of-standing.result _ c.standing_of-standing.ensures

pub returns : goal.returns
returns c =
    ap (λ (n : ℕ). view_in (views.Unleased n)) c.carried_count.ensures
    ∙ is_unleased c.args.found c.args.now c.in_default.is (lookup c.args.offset.0 (view c.args.words.now).table.carried) refl
