-- What a begin's refusal table says where none of its tests holds: the worker may, and a header can hold the group's number. A row
-- more in the table is a field more here and moves nothing else. Assumes nothing.
use Prim.Native.Nat.{ℕ, ◌≤◌}
use mathlib.Core.Path.{◌≡◌}
use borrow.Author.Tests.{ltb-false}
use Rattle.types.specs.Limits.{MAX32}
use Rattle.types.specs.Refusal.{done}
use Rattle.types.specs.Table.{Passed}
use Rattle.types.proofs.Table.{checked-done, passed-append}
use Rattle.consumer.specs.State.{State}
use Rattle.consumer.specs.Rights.{checkpointing}
use Rattle.consumer.specs.Calls.{call_rows}
use Rattle.consumer.proofs.Open.{Allowed, call_open}
use Rattle.checkpoint.specs.Checkpoint.{Writing, writing, begin_rows, begin_table, begin}

pub record BeginOpen (s : State) (w : ℕ) : Type 0 where
  pub allowed : Allowed s w checkpointing
  pub numbered : s.next.number ≤ MAX32

pub begin_open : (s : State) (w : ℕ) → Passed (begin_table s w) → BeginOpen s w
begin_open s w p =
    let rows = passed-append (call_rows s w checkpointing) (begin_rows s) p in
    record {
      allowed = call_open s w checkpointing rows.0;
      numbered = ltb-false MAX32 s.next.number rows.1.0;
    }

pub begin-says : (s : State) (w : ℕ) (r : Writing) → begin s w ≡ done r → BeginOpen s w × (writing s 0 ≡ r)
unfolding begin
begin-says s w r e =
    let d = checked-done (begin_table s w) (writing s 0) r e in
    (begin_open s w d.0, d.1)
