-- `begin_in_place` meets its contract: the worker's rows, then what a begin does that is permitted. Assumes nothing.
use mathlib.Core.Path.{sym}
use Rattle.cursor.proofs.Refusals.{err_is}
use Rattle.types.proofs.Table.{first_none}
use Rattle.cursor.specs.View.{ack_cursor}
use Rattle.consumer.specs.Rights.{checkpointing}
use Rattle.consumer.specs.Calls.{call_rows}
use Rattle.consumer.specs.View.{view}
use Rattle.consumer.specs.Parts.{permitting}
use Rattle.checkpoint.specs.Parts.{beginning, counting}
use Rattle.checkpoint.proofs.Encoding.{begin_unpermitted}
use Rattle.checkpoint.proofs.in_place.begin_in_place.Goals as goal

pub returns-in_err-permission_of : goal.returns-in_err-permission_of
returns-in_err-permission_of c =
    let a = c.args in
    let p = beginning a.rights.now (ack_cursor a.committed a.starts.now a.ends.now a.runs) (counting (λ column. column) a.counts) a.number a.block a.area_len in
    λ x l w lc la.
    rw (err_is c.from_residual.result c.in_err-permission_of.field-0.0 c.from_residual.ensures.1)
    (begin_unpermitted (p x) a.worker w lc la a.payload.now c.in_err-permission_of.field-0.0 c.in_err-permission_of.ensures)

pub returns : goal.returns
returns c =
    let a = c.args in
    let p = beginning a.rights.now (ack_cursor a.committed a.starts.now a.ends.now a.runs) (counting (λ column. column) a.counts) a.number a.block a.area_len in
    λ x l w lc la.
    c.begin_permitted.ensures (permitting a.rights.now x) l a.worker
    (first_none (call_rows (view (p x)) a.worker checkpointing) (sym (c.in_ok-permission_of.ensures))) w lc la
