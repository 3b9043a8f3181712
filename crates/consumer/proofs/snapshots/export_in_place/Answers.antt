-- `export_in_place` meets its contract: who may not look is refused, and else both snapshots are encoded. Assumes nothing.
use borrow.Author.Rules.{rules}
use Rattle.std.proofs.lemmas.Result.{err_from_is_err_and}
use Rattle.cursor.specs.View.{ack_cursor}
use Rattle.lease.specs.Parts.{listing_all}
use Rattle.consumer.specs.Export.{Snapshots, snapshots}
use Rattle.consumer.specs.View.{view}
use Rattle.consumer.specs.Parts.{permitting, exporting}
use Rattle.consumer.specs.declared.Consumer.{Consumer}
use Rattle.consumer.proofs.Exported.{export-refused, export-permitted}
use Rattle.consumer.proofs.snapshots.export_in_place.Goals as goal
use Rattle.consumer.proofs.snapshots.export_in_place.Goals.{Start}

-- a consumer with the parts that were handed in
abbrev given : Start → Consumer → Consumer
given s =
    let a = s.args in
    exporting a.rights.now (ack_cursor a.committed a.starts.now a.ends.now a.runs)
    (listing_all a.len a.carried_len a.offsets.now a.slots.now a.deliveries.now a.carried_offsets.now a.carried_counts.now)

abbrev lent : Start → Snapshots
lent s = snapshots s.args.cursor.now s.args.attempts.now

pub returns-in_err-permission_of : goal.returns-in_err-permission_of
returns-in_err-permission_of c x l =
    let p = err_from_is_err_and c.from_residual.result c.from_residual.ensures.1 in
    let s = (goal.at.returns-in_err-permission_of c).Start in
    rw (p.1, p.2) (export-refused (view (given s x)) c.args.worker (lent s) c.in_err-permission_of.field-0.0 c.in_err-permission_of.ensures)

pub encode_both-requires : goal.encode_both-requires
encode_both-requires c =
    record { consumer = permitting c.args.rights.now c.requires.consumer; cursor = c.requires.cursor; whole = c.requires.whole }

pub returns : goal.returns
returns c x l =
    let s = (goal.at.returns c).Start in
    export-permitted (view (given s x)) c.args.worker (lent s) c.in_ok-permission_of.ensures c.encode_both.result _
    (c.encode_both.ensures (permitting c.args.rights.now x) l c.args.worker)
