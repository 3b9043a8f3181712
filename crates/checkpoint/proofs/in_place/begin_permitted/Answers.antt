-- `begin_permitted` meets its contract: both snapshots fit, one behind the other, and the group's place is where the definition has it.
-- Assumes nothing.
use native.Mathlib.Omega.{arith}
use mathlib.Core.Path.{◌∙◌}
use Rattle.cursor.specs.View.{ack_cursor}
use Rattle.consumer.specs.View.{view}
use Rattle.checkpoint.specs.Parts.{fitting, counting}
use Rattle.checkpoint.proofs.Columns.{storable}
use Rattle.checkpoint.proofs.Merged.{counts-merged}
use Rattle.checkpoint.proofs.Encoding.{cursor-size, few-counts, attempt_size, both-encoded, block-small, bodies-few, zeroed-few, begin-refused, begin-done}
use Rattle.checkpoint.proofs.in_place.begin_permitted.Goals as goal

pub returns-then-number : goal.returns-then-number
returns-then-number g c =
    let a = c.args in
    let p = fitting (ack_cursor a.committed a.starts.now a.ends.now a.runs) (counting g.T.Number.numbers a.counts) a.number a.block a.area_len in
    λ x l worker may w lc la. begin-refused (p x) l.sound w lc la a.payload.now worker may c.if-number.true

pub snapshot_len-attempt_len-requires : goal.snapshot_len-attempt_len-requires
snapshot_len-attempt_len-requires g c =
    let a = c.args in
    let p = fitting (ack_cursor a.committed a.starts.now a.ends.now a.runs) (counting g.T.Number.numbers a.counts) a.number a.block a.area_len in
    few-counts (p c.requires.parts.consumer) c.requires.parts.lent

pub put-requires : goal.put-requires
put-requires g c =
    let a = c.args in
    let p = fitting (ack_cursor a.committed a.starts.now a.ends.now a.runs) (counting g.T.Number.numbers a.counts) a.number a.block a.area_len in
    let l = c.requires.parts.lent in
    let few = few-counts (p c.requires.parts.consumer) l in
    (storable g.T.Number.numbers a.counts (p c.requires.parts.consumer) l.table l.sound c.requires.narrow, few, omega (arith, c.snapshot_len-cursor_len.ensures, l.cursor.sound.few, few, c.encode_in_place.auto.out, c.requires.parts.payload))

pub place_of-place-requires : goal.place_of-place-requires
place_of-place-requires g c =
    let a = c.args in
    let p = fitting (ack_cursor a.committed a.starts.now a.ends.now a.runs) (counting g.T.Number.numbers a.counts) a.number a.block a.area_len in
    let x = p c.requires.parts.consumer in
    let l = c.requires.parts.lent in
    (block-small x l.sound, bodies-few x l.sound _ _ (c.snapshot_len-cursor_len.ensures ∙ cursor-size x l) (c.snapshot_len-attempt_len.ensures ∙ attempt_size x l) _ c.bodies_of-bodies.ensures)

pub overflow_add-result-2 : goal.overflow_add-result-2
overflow_add-result-2 g c =
    let a = c.args in
    let p = fitting (ack_cursor a.committed a.starts.now a.ends.now a.runs) (counting g.T.Number.numbers a.counts) a.number a.block a.area_len in
    let x = p c.requires.parts.consumer in
    let l = c.requires.parts.lent in
    let front = c.snapshot_len-cursor_len.ensures ∙ cursor-size x l in
    let behind = c.snapshot_len-attempt_len.ensures ∙ attempt_size x l in
    omega (arith, bodies-few x l.sound _ _ front behind _ c.bodies_of-bodies.ensures, zeroed-few x l.sound _ _ front behind _ _ c.bodies_of-bodies.ensures c.place_of-place.ensures.zeros)

pub returns : goal.returns
returns g c =
    let a = c.args in
    let p = fitting (ack_cursor a.committed a.starts.now a.ends.now a.runs) (counting g.T.Number.numbers a.counts) a.number a.block a.area_len in
    λ y l worker may w lc la.
    let x = p y in
    let front = c.snapshot_len-cursor_len.ensures ∙ cursor-size x l in
    let behind = c.snapshot_len-attempt_len.ensures ∙ attempt_size x l in
    let counts = rw (counts-merged x l.table l.sound) at c.put.ensures in
    let bytes = both-encoded (view x) l.sound.valid a.payload.now _ _ _ _ c.snapshot_len-cursor_len.result c.snapshot_len-attempt_len.result c.requires.parts.payload front behind c.encode_in_place.ensures counts in
    begin-done x l.sound w lc la a.payload.now worker may c.snapshot_len-cursor_len.result c.snapshot_len-attempt_len.result front behind c.if-number.false _ _ c.bodies_of-bodies.ensures c.place_of-place.ensures.zeros _ bytes
