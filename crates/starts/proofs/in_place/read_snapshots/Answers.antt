-- `read_snapshots` meets its contract: the test of the cursor's snapshot, then the attempts, then the parts of both. Assumes nothing.
use native.Mathlib.Omega.{arith}
use mathlib.Core.Path.{sym, ap, ◌∙◌}
use Rattle.std.proofs.lemmas.Result.{err_from_is_err_and}
use Rattle.types.specs.Refusal.{refused}
use Rattle.raw.proofs.Bytes.{bytes-known}
use Rattle.cursor.proofs.Walking.{checked-few, columns-restored}
use Rattle.attempt.proofs.Codec.{decoded-refused, decoded-read}
use Rattle.starts.proofs.Resuming.{cursor-said, cursor-held, cursor-refused, attempts-refused, both_read, column-long}
use Rattle.starts.proofs.in_place.read_snapshots.Goals as goal

pub returns-in_err-figures : goal.returns-in_err-figures
returns-in_err-figures c =
    let p = err_from_is_err_and c.from_residual.result c.from_residual.ensures.1 in
    let a = c.args in
    λ size.
    rw p.1
    (cursor-refused a.cursor_bytes.now a.attempt_bytes.now a.ceiling a.next size _ _ (cursor-said a.cursor_bytes.now _ c.in_err-figures.ensures ∙ ap refused (sym p.2)))

pub returns-in_err-decoded : goal.returns-in_err-decoded
returns-in_err-decoded c =
    let p = err_from_is_err_and c.from_residual-in_err-decoded.result c.from_residual-in_err-decoded.ensures.1 in
    let a = c.args in
    λ size.
    rw p.1
    (attempts-refused a.cursor_bytes.now a.attempt_bytes.now a.ceiling a.next size _ (cursor-held a.cursor_bytes.now _ c.in_ok-figures.ensures) _ _
    (decoded-refused a.attempt_bytes.now _ c.in_err-decoded.ensures ∙ ap refused (sym p.2)))

-- the ranges that were tested are few enough for the columns
pub read_column-requires : goal.read_column-requires
read_column-requires c =
    (omega (arith, c.in_ok-figures.ensures.figures.within), omega (arith, checked-few c.args.cursor_bytes.now c.in_ok-figures.figures c.in_ok-figures.ensures, c.requires.starts))

pub read_column-requires-2 : goal.read_column-requires-2
read_column-requires-2 c =
    (omega (arith, c.in_ok-figures.ensures.figures.within), omega (arith, checked-few c.args.cursor_bytes.now c.in_ok-figures.figures c.in_ok-figures.ensures, c.requires.ends))

-- with both columns read, the cursor is there
pub carry-carried_len-requires : goal.carry-carried_len-requires
carry-carried_len-requires c =
    let few = checked-few c.args.cursor_bytes.now c.in_ok-figures.figures c.in_ok-figures.ensures in (
      record {
        starts = column-long _ 9 _ _ _ c.read_column.ensures few c.requires.starts;
        ends = column-long _ 17 _ _ _ c.read_column-2.ensures few c.requires.ends;
        sound =
            (columns-restored c.args.cursor_bytes.now c.in_ok-figures.figures c.in_ok-figures.ensures (bytes-known c.args.cursor_bytes.now c.shared_slice_known-1.given)
            _ _ _ _ c.read_column.ensures c.read_column-2.ensures).sound;
      },
      (decoded-read c.args.attempt_bytes.now c.in_ok-decoded.decoded c.in_ok-decoded.ensures).few,
      c.requires.offsets,
      c.requires.counts,
    )

pub returns : goal.returns
returns c =
    let a = c.args in
    λ size.
    both_read a.cursor_bytes.now a.attempt_bytes.now a.ceiling a.next size _ _ _ _ _
    (columns-restored a.cursor_bytes.now c.in_ok-figures.figures c.in_ok-figures.ensures (bytes-known a.cursor_bytes.now c.shared_slice_known-1.given)
    _ _ _ _ c.read_column.ensures c.read_column-2.ensures)
    _ (decoded-read a.attempt_bytes.now c.in_ok-decoded.decoded c.in_ok-decoded.ensures) c.carry-carried_len.ensures.0 c.carry-carried_len.ensures.1
