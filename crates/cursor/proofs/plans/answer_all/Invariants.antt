-- `answer_all` meets its contract. The loop's invariant: what is left to do, with what is done, is the whole. Assumes nothing.
use Prim.Native.Nat.{◌≤◌}
use mathlib.Core.Path.{◌≡◌}
use lib.ListN.{length}
use Rattle.cursor.specs.View.{ack_cursor, view}
use Rattle.cursor.proofs.Plan.{Answering}
use Rattle.cursor.proofs.plans.answer_all.Given as goal

abbrev pub invariant-loop-i : goal.invariant-loop-i
invariant-loop-i l =
    (l.i ≤ l.n) × (length l.out ≡ length l.initial.out) × Answering l.committed (view (ack_cursor l.committed l.starts l.ends l.runs)).ahead l.offsets l.out l.at l.looks l.i
