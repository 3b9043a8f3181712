-- `decode_snapshot` meets its contract. All is tested before a word is stored. Assumes nothing.
use Prim.Native.Nat.{ℕ}
use native.Mathlib.Omega.{arith}
use mathlib.Core.Path.{sym, ◌∙◌}
use mathlib.Core.List.{List}
use lib.ListN.{length-set}
use borrow.Rule.Slice.PartMut.{put_mid}
use Rattle.types.specs.Limits.{RANGES}
use Rattle.cursor.proofs.Refusals.{err_is}
use Rattle.raw.proofs.Bytes.{bytes-known}
use Rattle.cursor.specs.Layout.{COMMITTED, STARTS, ENDS}
use Rattle.cursor.proofs.Walking.{checked-few}
use Rattle.cursor.proofs.Words.{column-long, ends-long, both_long, stored-long}
use Rattle.cursor.proofs.Made.{decode_kept, decode_made}
use Rattle.cursor.proofs.snapshots.decode_snapshot.Goals as goal

-- both columns back in their places
abbrev both : List ℕ → List ℕ → List ℕ → List ℕ
both words starts ends = put_mid ENDS RANGES (put_mid STARTS RANGES words starts) ends

pub returns-in_err-figures : goal.returns-in_err-figures
returns-in_err-figures c =
    rw (err_is c.from_residual.result c.in_err-figures.field-0.0 c.from_residual.ensures.1)
    (decode_kept c.args.cursor.now c.args.input.now _ c.in_err-figures.ensures)

pub read_column-requires : goal.read_column-requires
read_column-requires c =
    (omega (arith, c.in_ok-figures.ensures.figures.within), omega (arith, checked-few _ _ c.in_ok-figures.ensures, column-long STARTS c.args.cursor.now c.requires (omega arith)))

pub read_column-requires-2 : goal.read_column-requires-2
read_column-requires-2 c =
    (omega (arith, c.in_ok-figures.ensures.figures.within), omega (arith, checked-few _ _ c.in_ok-figures.ensures, ends-long c.args.cursor.now c.requires c.read_column.new.column c.read_column.auto.column))

pub bounds-cursor-1 : goal.bounds-cursor-1
bounds-cursor-1 c =
    omega (arith, length-set (both c.args.cursor.now c.read_column.new.column c.read_column-2.new.column) COMMITTED c.in_ok-figures.figures.committed, both_long c.args.cursor.now c.requires c.read_column.new.column c.read_column.auto.column c.read_column-2.new.column c.read_column-2.auto.column)

pub shape_of-cursor : goal.shape_of-cursor
shape_of-cursor c =
    let r = c.in_ok-figures.figures in
    stored-long c.args.cursor.now c.requires c.read_column.new.column c.read_column.auto.column c.read_column-2.new.column c.read_column-2.auto.column r.committed r.runs ∙ sym c.requires

pub returns : goal.returns
returns c =
    let bytes = c.args.input.now in
    decode_made c.args.cursor.now c.requires c.read_column.new.column c.read_column.auto.column c.read_column-2.new.column c.read_column-2.auto.column
    bytes c.in_ok-figures.figures c.in_ok-figures.ensures (bytes-known bytes c.type_inv.input) c.read_column.ensures c.read_column-2.ensures
