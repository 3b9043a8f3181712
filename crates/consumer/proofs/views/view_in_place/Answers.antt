-- `view_in_place` meets its contract: a settled offset, then what a supervisor is shown, then what a worker is. Assumes nothing.
-- a consumer with the parts that the arguments are, and its state
use mathlib.Core.Path.{sym, ap, ◌∙◌}
use mathlib.Core.Option.{Option}
use borrow.Author.Rules.{rules}
use Rattle.types.specs.Keyed.{lookup}
use Rattle.cursor.specs.View.{ack_cursor}
use Rattle.lease.specs.declared.Lease.{Lease}
use Rattle.consumer.specs.State.{State}
use Rattle.consumer.specs.Standing.{bare, unsettled_as, in_full}
use Rattle.consumer.specs.Parts.{showing}
use Rattle.consumer.specs.View.{view}
use Rattle.consumer.specs.declared.Consumer.{Consumer}
use Rattle.consumer.proofs.CallsReturns.{table-whole}
use Rattle.consumer.proofs.Standing.{is-settled, is_plain, is-full}
use Rattle.consumer.proofs.views.view_in_place.Goals as goal
use Rattle.consumer.proofs.views.view_in_place.Goals.{Start}

abbrev made : Start → Consumer → Consumer
made s =
    showing s.args.rights.now (ack_cursor s.args.committed s.args.starts.now s.args.ends.now s.args.runs) s.args.len s.args.carried_len
    s.args.offsets.now s.args.slots.now s.args.generations.now s.args.attempt_starts.now s.args.deadlines.now s.args.deliveries.now s.args.workers.now
    s.args.carried_offsets.now s.args.carried_counts.now

abbrev shown : Start → Consumer → State
shown s x = view (made s x)

pub returns-then-is_acked_in_place : goal.returns-then-is_acked_in_place
returns-then-is_acked_in_place c x w =
    is-settled (shown (goal.at.returns-then-is_acked_in_place c).Start x) c.args.worker c.args.offset c.args.now (sym c.is_acked_in_place.ensures ∙ c.if-is_acked_in_place.true)

pub returns-then-is_supervisor : goal.returns-then-is_supervisor
returns-then-is_supervisor c x w =
    let k = made (goal.at.returns-then-is_supervisor c).Start x in
    let found = c.lease_in_place-lease.ensures k.table (table-whole w) in
    c.in_full.ensures k.table (table-whole w)
    ∙ ap (λ (y : Option Lease). in_full y (lookup c.args.offset (view k).table.carried) c.args.now) found
    ∙ is-full (view k) c.args.worker c.args.offset c.args.now (sym c.is_acked_in_place.ensures ∙ c.if-is_acked_in_place.false) (sym c.is_supervisor.ensures ∙ c.if-is_supervisor.true)

pub returns : goal.returns
returns c x w =
    let k = made (goal.at.returns c).Start x in
    let found = c.lease_in_place-lease.ensures k.table (table-whole w) in
    ap bare (c.standing_of.ensures ∙ ap (λ (y : Option Lease). unsettled_as y c.args.now) found)
    ∙ is_plain (view k) c.args.worker c.args.offset c.args.now (sym c.is_acked_in_place.ensures ∙ c.if-is_acked_in_place.false) (sym c.is_supervisor.ensures ∙ c.if-is_supervisor.false)
