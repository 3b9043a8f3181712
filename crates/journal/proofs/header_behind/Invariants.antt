-- `journal::header_behind` meets its contract. The invariant: no block between has kind 1 and a right check. Assumes
-- nothing.
use Prim.Native.Nat.{◌<◌}
use Rattle.journal.proofs.Walker.{Searched}
use Rattle.journal.proofs.header_behind.Given as goal

abbrev pub invariant-loop-i : goal.invariant-loop-i
invariant-loop-i l = (l.at < l.i) × Searched l.area l.at l.i
