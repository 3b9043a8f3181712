-- `AckCursor::decode_snapshot` meets its contract. Assumes nothing.
use native.Mathlib.Omega.{arith}
use mathlib.Core.Path.{ap}
use lib.ListN.{length}
use Rattle.cursor.proofs.Refusals.{err_is}
use Rattle.raw.proofs.Bytes.{bytes-known}
use Rattle.cursor.specs.declared.AckCursor.{AckCursor}
use Rattle.cursor.proofs.Reading.{decode_refused}
use Rattle.cursor.proofs.Walking.{checked-few, columns-restored}
use Rattle.cursor.proofs.AckCursor.decode_snapshot.Goals as goal

pub returns-in_err-figures : goal.returns-in_err-figures
returns-in_err-figures c =
    rw (err_is c.from_residual.result c.in_err-figures.field-0.0 c.from_residual.ensures.1)
    (decode_refused c.args.input.now _ c.in_err-figures.ensures.fault)

pub read_column-requires : goal.read_column-requires
read_column-requires c =
    let is = c.in_ok-figures.ensures in
    (omega (arith, is.figures.within), omega (arith, checked-few _ _ is, ap (λ (g : AckCursor). length g.starts) c.resume-cursor.ensures.literal))

pub read_column-requires-2 : goal.read_column-requires-2
read_column-requires-2 c =
    let is = c.in_ok-figures.ensures in
    (omega (arith, is.figures.within), omega (arith, checked-few _ _ is, ap (λ (g : AckCursor). length g.ends) c.resume-cursor.ensures.literal))

pub returns : goal.returns
returns c =
    let bytes = c.args.input.now in
    rw (ap (λ (g : AckCursor). g.committed) c.resume-cursor.ensures.literal)
    (columns-restored bytes _ c.in_ok-figures.ensures (bytes-known bytes c.type_inv.input) _ _ _ _ c.read_column.ensures c.read_column-2.ensures)
