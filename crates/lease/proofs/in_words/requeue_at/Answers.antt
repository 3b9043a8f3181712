-- `requeue_at` meets its contract. Assumes nothing.
use Prim.Native.Nat.{◌+◌}
use mathlib.Core.Path.{ap, ◌∙◌}
use lib.ListN.{length-set}
use Rattle.words.specs.Columns.{word}
use Rattle.lease.specs.Operations.{requeued_as}
use Rattle.lease.specs.Layout.{NEXT, table_in}
use Rattle.lease.specs.Stored.{holding, numbered}
use Rattle.lease.specs.declared.Lease.{Lease}
use Rattle.lease.specs.declared.LeaseTable.{LeaseTable}
use Rattle.lease.proofs.Stores.{stored_next}
use Rattle.lease.proofs.InWords.{nack-answers}
use Rattle.lease.proofs.in_words.requeue_at.Goals as goal

pub returns : goal.returns
returns c o g p =
    let w = c.args.table.now in
    let next = word NEXT w in
    let d = c.saturating_add-deadline.result in
    let w1 = c.put_lease.new.table in
    let long = c.table-1.given ∙ c.requires.0.long in
    nack-answers c.requires.0 o g p c.args.now c.args.delay_nanos d c.requires.2 c.saturating_add-deadline.ensures _ (length-set w1 NEXT (next + 1) ∙ long)
    (stored_next w1 long (next + 1)
    ∙ ap (λ (t : LeaseTable). numbered (next + 1) t.redeliveries_since_flush t)
    (c.put_lease.ensures ∙ ap (λ (h : Lease). holding c.args.at (requeued_as next d h) (table_in w)) c.lease_at-lease.ensures))
