-- `view_of` meets its contract. Assumes nothing.
use mathlib.Core.Path.{sym, ap, ◌∙◌}
use mathlib.Core.Option.{Option}
use Rattle.types.specs.Keyed.{lookup}
use Rattle.lease.specs.declared.Lease.{Lease}
use Rattle.consumer.specs.Standing.{bare, unsettled_as, in_full}
use Rattle.consumer.proofs.Standing.{is-settled, is_plain, is-full}
use Rattle.consumer_words.specs.Layout.{view}
use Rattle.consumer_words.proofs.reads.view_of.Goals as goal

pub returns-then-is_settled : goal.returns-then-is_settled
returns-then-is_settled c =
    is-settled (view c.args.words.now) c.args.worker c.args.offset.0 c.args.now (sym c.is_settled.ensures ∙ c.if-is_settled.true)

pub returns-then-is_supervisor : goal.returns-then-is_supervisor
returns-then-is_supervisor c =
    c.in_full.ensures ∙ ap (λ (y : Option Lease). in_full y (lookup c.args.offset.0 (view c.args.words.now).table.carried) c.args.now) c.lease_of-found.ensures
    ∙ is-full (view c.args.words.now) c.args.worker c.args.offset.0 c.args.now (sym c.is_settled.ensures ∙ c.if-is_settled.false) (sym c.is_supervisor.ensures ∙ c.if-is_supervisor.true)

pub returns : goal.returns
returns c =
    ap bare (c.standing_of.ensures ∙ ap (λ (y : Option Lease). unsettled_as y c.args.now) c.lease_of-found.ensures)
    ∙ is_plain (view c.args.words.now) c.args.worker c.args.offset.0 c.args.now (sym c.is_settled.ensures ∙ c.if-is_settled.false) (sym c.is_supervisor.ensures ∙ c.if-is_supervisor.false)
