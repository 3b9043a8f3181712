-- `encode_columns` meets its contract. Assumes nothing.
use Prim.Native.Nat.{◌+◌, ◌-◌, ◌*◌, ◌≤◌}
use native.Mathlib.Omega.{arith}
use mathlib.Core.Path.{◌≡◌, sym, ◌∙◌}
use lib.ListN.{length}
use borrow.Author.Tests.{ltb-true, ltb-false}
use Rattle.cursor.specs.View.{ack_cursor, view}
use Rattle.cursor.proofs.View.{count}
use Rattle.cursor.proofs.Writing.{too_short, encoded}
use Rattle.cursor.proofs.columns.encode_columns.Goals as goal
use Rattle.cursor.proofs.columns.encode_columns.Goals.{Else-too_short, Start}

size : (s : Start) → length (view (ack_cursor s.args.committed s.args.starts.now s.args.ends.now s.args.n)).ahead ≡ s.args.n
size s = count s.args.n s.args.starts.now s.args.ends.now s.requires.1 s.requires.2

pub snapshot_len-len-requires : goal.snapshot_len-len-requires
snapshot_len-len-requires c = c.requires.0

pub returns-then-too_short : goal.returns-then-too_short
returns-then-too_short c =
    let a = c.args in
    too_short (view (ack_cursor c.args.committed c.args.starts.now c.args.ends.now c.args.n)) a.n a.at a.out.now (size (goal.at.returns-then-too_short c).Start)
    (rw (← c.snapshot_len-len.ensures) (ltb-true _ _ (sym c.too_short.ensures ∙ c.if-too_short.true)))

-- there is room
room : (c : Else-too_short) → let a = c.args in a.at + (13 + 16 * a.n) ≤ length a.out.now
room c = rw (← c.snapshot_len-len.ensures) (ltb-false _ _ (sym c.too_short.ensures ∙ c.if-too_short.false))

pub write_body-requires : goal.write_body-requires
write_body-requires c =
    (c.requires.1, c.requires.2, omega (arith, room (goal.at.write_body-requires c).Else-too_short))

pub overflow_add-end : goal.overflow_add-end
overflow_add-end c = omega (arith, room (goal.at.overflow_add-end c).Else-too_short)

pub returns : goal.returns
returns c =
    let l = c.snapshot_len-len in
    let a = c.args in
    encoded (view (ack_cursor c.args.committed c.args.starts.now c.args.ends.now c.args.n)) a.n a.at a.out.now (size (goal.at.returns c).Start) c.write_body.new.out c.write_u32.new.buf c.crc32c-check.result (l.result - 4) (room (goal.at.returns c).Else-too_short) (omega (arith, l.ensures)) c.write_body.ensures c.crc32c-check.ensures c.write_u32.ensures
