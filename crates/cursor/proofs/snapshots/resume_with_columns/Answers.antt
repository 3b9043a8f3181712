-- `resume_with_columns` meets its contract. All is tested before a word is stored. Assumes nothing.
use Prim.Native.Nat.{ℕ, ◌≤◌, min}
use native.Mathlib.Omega.{arith}
use mathlib.Core.Path.{◌≡◌, sym, ◌∙◌}
use mathlib.Core.List.{List}
use mathlib.Core.Option.{none}
use lib.ListN.{length, length-set}
use borrow.Rule.Slice.PartMut.{put_mid}
use Rattle.types.specs.Limits.{RANGES}
use Rattle.types.specs.Table.{first}
use Rattle.types.specs.Zipped.{zipped}
use Rattle.cursor.specs.Ranges.{range}
use Rattle.cursor.specs.Cursor.{resume_table}
use Rattle.cursor.specs.Layout.{COMMITTED, STARTS, ENDS}
use Rattle.cursor.proofs.Words.{column-long, ends-long, both_long, stored-long}
use Rattle.cursor.proofs.Made.{resume-kept, columns-few, resume-made}
use Rattle.cursor.proofs.Refusals.{err_is}
use Rattle.cursor.proofs.snapshots.resume_with_columns.Goals as goal

few : (committed : ℕ) (starts ends : List ℕ) {runs : ℕ} → none ≡ first (resume_table committed (zipped range starts ends)) → runs ≡ min (length starts) (length ends) → runs ≤ RANGES
few committed starts ends {runs} f e = columns-few committed starts ends f runs e

-- both columns back in their places
abbrev both : List ℕ → List ℕ → List ℕ → List ℕ
both words starts ends = put_mid ENDS RANGES (put_mid STARTS RANGES words starts) ends

pub returns-in_err-check_columns : goal.returns-in_err-check_columns
returns-in_err-check_columns c =
    rw (err_is c.from_residual.result c.in_err-check_columns.field-0.0 c.from_residual.ensures.1)
    (resume-kept c.args.cursor.now c.args.committed.0 c.args.starts.now c.args.ends.now _ c.in_err-check_columns.ensures)

pub copy-requires : goal.copy-requires
copy-requires c =
    (omega (arith, few c.args.committed.0 c.args.starts.now c.args.ends.now c.in_ok-check_columns.ensures c.min-runs.ensures, column-long STARTS c.args.cursor.now c.requires (omega arith)), omega (arith, c.min-runs.ensures))

pub copy-requires-2 : goal.copy-requires-2
copy-requires-2 c =
    (omega (arith, few c.args.committed.0 c.args.starts.now c.args.ends.now c.in_ok-check_columns.ensures c.min-runs.ensures, ends-long c.args.cursor.now c.requires c.copy.new.column c.copy.auto.column), omega (arith, c.min-runs.ensures))

pub bounds-cursor-1 : goal.bounds-cursor-1
bounds-cursor-1 c =
    omega (arith, length-set (both c.args.cursor.now c.copy.new.column c.copy-2.new.column) COMMITTED c.args.committed.0, both_long c.args.cursor.now c.requires c.copy.new.column c.copy.auto.column c.copy-2.new.column c.copy-2.auto.column)

pub shape_of-cursor : goal.shape_of-cursor
shape_of-cursor c =
    stored-long c.args.cursor.now c.requires c.copy.new.column c.copy.auto.column c.copy-2.new.column c.copy-2.auto.column c.args.committed.0 c.min-runs.result ∙ sym c.requires

pub returns : goal.returns
returns c =
    resume-made c.args.cursor.now c.requires c.copy.new.column c.copy.auto.column c.copy-2.new.column c.copy-2.auto.column
    c.args.committed.0 c.args.starts.now c.args.ends.now c.in_ok-check_columns.ensures c.min-runs.result c.min-runs.ensures (omega arith) (λ i. omega (arith, c.type_inv.ends i))
    c.copy.ensures c.copy-2.ensures
