-- `extend_at` meets its contract. Assumes nothing.
use mathlib.Core.Path.{◌≡◌, ap, ◌∙◌}
use Rattle.lease.specs.Operations.{cap_from, deadline_from, with_deadline}
use Rattle.lease.specs.Layout.{config_in, table_in}
use Rattle.lease.specs.Stored.{held_at, holding}
use Rattle.lease.specs.declared.Lease.{Lease}
use Rattle.lease.specs.declared.LeaseConfig.{LeaseConfig}
use Rattle.lease.proofs.InWords.{cap_answers, extend-answers}
use Rattle.lease.proofs.in_words.extend_at.Goals as goal

pub returns-then-cap-now : goal.returns-then-cap-now
returns-then-cap-now c o g p =
    let w = c.args.table.now in
    let at = c.args.at in
    let cap : c.cap.result ≡ cap_from (config_in w) (held_at at (table_in w)).attempt_start = c.cap.ensures ∙ ap (λ (k : LeaseConfig). cap_from k c.lease_at-lease.result.attempt_start) c.config_of-config.ensures
    ∙ ap (λ (h : Lease). cap_from (config_in w) h.attempt_start) c.lease_at-lease.ensures in
    cap_answers c.requires.0 o g p c.args.now (rw cap at c.if-cap-now.true)

pub returns : goal.returns
returns c o g p =
    let w = c.args.table.now in
    let at = c.args.at in
    let now = c.args.now in
    let cap : c.cap.result ≡ cap_from (config_in w) (held_at at (table_in w)).attempt_start = c.cap.ensures ∙ ap (λ (k : LeaseConfig). cap_from k c.lease_at-lease.result.attempt_start) c.config_of-config.ensures
    ∙ ap (λ (h : Lease). cap_from (config_in w) h.attempt_start) c.lease_at-lease.ensures in
    extend-answers c.requires.0 o g p now c.deadline-deadline.result
    (c.deadline-deadline.ensures ∙ ap (λ (k : LeaseConfig). deadline_from k c.lease_at-lease.result.attempt_start now) c.config_of-config.ensures
    ∙ ap (λ (h : Lease). deadline_from (config_in w) h.attempt_start now) c.lease_at-lease.ensures)
    (rw cap at c.if-cap-now.false) c.put_lease.new.table (c.table-1.given ∙ c.requires.0.long)
    (c.put_lease.ensures ∙ ap (λ (h : Lease). holding at (with_deadline c.deadline-deadline.result h) (table_in w)) c.lease_at-lease.ensures)
