-- `in_full` meets its contract: the lease's values, or else the carried count. Assumes nothing.
use Prim.Native.Nat.{ℕ}
use mathlib.Core.Path.{refl, ap, ◌∙◌}
use borrow.Author.Rules.{rules}
use Rattle.types.specs.Keyed.{lookup}
use Rattle.lease.specs.State.{view}
use Rattle.lease.specs.Parts.{carrying}
use Rattle.consumer.specs.State.{count_or0}
use Rattle.consumer.specs.View.{view_in}
use Rattle.consumer.specs.declared.views.View.TheVariants as views
use Rattle.consumer.proofs.Asked.{unwrapped}
use Rattle.consumer.proofs.Standing.{is-leased, is_unleased}
use Rattle.consumer.proofs.views.in_full.Goals as goal

pub returns-in-Some : goal.returns-in-Some
returns-in-Some c t w =
    is-leased c.args.lease _ c.args.now c.in-Some.is c.standing_of-standing.result _ c.standing_of-standing.ensures

pub returns : goal.returns
returns c t w =
    let carried = lookup c.args.offset (view (carrying c.args.carried_len c.args.carried_offsets.now c.args.carried_counts.now t)).carried in
    ap (λ (n : ℕ). view_in (views.Unleased n))
    (c.unwrap_or.ensures ∙ unwrapped c.carried_in_place-carried.result ∙ ap count_or0 (c.carried_in_place-carried.ensures t w))
    ∙ is_unleased c.args.lease c.args.now c.in_default.is carried refl
